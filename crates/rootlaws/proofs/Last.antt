-- The last step of the set, what the shift keeps, and the rounding.
use Rattle.std.proofs.Common.{◌≡◌, ℕ, zero, suc, ◌+◌, ◌-◌, ◌*◌, ◌/◌, ◌%◌, ◌<◌, ◌≤◌, ap, le_trans, mul-le-mul_right, mod-lt, mul-le-mul, mul-le-mul_left, mul-pos, div-mul-le_self, arith}
use native.Mathlib.Omega.{by_contra}
use native.Mathlib.Nat.{div-add-mod, lt-div-mul-add, div-eq_of_lt, div-eq_of_lt-le}
use Rattle.rootlaws.specs.Words.{top, units, Rec, Near, Range, Final, Kept, diff0, diff1}
use Rattle.rootlaws.specs.Whole.{Nearest}
use Rattle.rootlaws.proofs.Square.{cancel, cancel<, over, ways}
use Rattle.rootlaws.proofs.Digits.{same_mod}

-- 64 ρ ≥ 31 W
pub ρ_large : (V M ρ h : ℕ) → 0 < V → M ≤ 4 * V → 128 * h ≤ V → top V ≤ M * ρ * ρ + units V h → 31 * (4 * V) ≤ 64 * ρ
ρ_large V M ρ h v m hs r =
    by_contra (31 * (4 * V)) (64 * ρ) (λ g. no (omega arith))
  where
    sq : 64 * ρ ≤ 31 * (4 * V) → M * (64 * ρ * (64 * ρ)) ≤ 4 * V * (31 * (4 * V) * (31 * (4 * V)))
    sq g = mul-le-mul m (mul-le-mul g g)

    hs' : 128 * h * (16 * V * V) ≤ V * (16 * V * V)
    hs' = mul-le-mul_right (16 * V * V) hs

    v3 : 0 < V * V * V
    v3 = mul-pos (mul-pos v v) v

    no : 64 * ρ ≤ 31 * (4 * V) → ⊥
    no g = omega (arith, sq g, hs', v3, mul-le-mul_left 4096 r)

-- (2 T + G)² above M V
high_square : (V M ρ T G a g : ℕ) → G ≡ a + g → M * ρ ≤ 2 * T * (4 * V) + a * (4 * V) → M * ρ + g * (4 * V) ≤ (2 * T + G) * (4 * V)
high_square V M ρ T G a g e n = omega (arith, ap (λ x. x * (4 * V)) e)

high_mid : (W x Mρ g : ℕ) → Mρ + g * W ≤ x → Mρ * Mρ + 2 * (Mρ * (g * W)) ≤ x * x
high_mid W x Mρ g h = omega (arith, mul-le-mul h h)

high_join : (V M ρ R h g : ℕ) → 0 < V → 31 * (4 * V) ≤ 64 * ρ → top V ≤ M * ρ * ρ + units V h
    → M * ρ * (M * ρ) + 2 * (M * ρ * (g * (4 * V))) ≤ R * (4 * V) * (R * (4 * V)) → 32 * (M * V) + 31 * (M * g) ≤ 32 * (R * R) + 32 * (M * h)
high_join V M ρ R h g v l r s =
    cancel (16 * V * V) (32 * (M * V) + 31 * (M * g)) (32 * (R * R) + 32 * (M * h)) (mul-pos (mul-pos (omega arith) v) v)
    (omega (arith, mul-le-mul_left (M * g * (4 * V)) l, mul-le-mul_left (32 * M) r))

high_end : (M V R h g : ℕ) → 0 < M → 32 * h < 31 * g → 32 * (M * V) + 31 * (M * g) ≤ 32 * (R * R) + 32 * (M * h) → M * V < R * R
high_end M V R h g m f e = cancel< 32 (M * V) (R * R) (omega (arith, mul-le-mul_left M f))

pub root_high : (V M ρ T G h a : ℕ) → 0 < V → Range V M → 128 * h ≤ V → a ≤ G → 32 * h < 31 * (G - a) → Rec V M ρ h
    → M * ρ ≤ 2 * T * (4 * V) + a * (4 * V) → M * V < (2 * T + G) * (2 * T + G)
root_high V M ρ T G h a v m hs ag f r n =
    let l = ρ_large V M ρ h v m.1 hs r.0 in
    let e : G ≡ a + (G - a) = omega arith in
    let s = high_mid (4 * V) ((2 * T + G) * (4 * V)) (M * ρ) (G - a) (high_square V M ρ T G a (G - a) e n) in
    high_end M V (2 * T + G) h (G - a) (le_trans v m.0) f (high_join V M ρ (2 * T + G) h (G - a) v l r.0 s)

-- (2 T - G)² below M V
low_join : (V M ρ t h c : ℕ) → 0 < V → 31 * (4 * V) ≤ 64 * ρ → M * ρ * ρ ≤ top V + units V h
    → t * (4 * V) * (t * (4 * V)) + 2 * (c * (4 * V) * (M * ρ)) ≤ M * ρ * (M * ρ) + c * (4 * V) * (c * (4 * V)) → 32 * (t * t) + 31 * (c * M) ≤ 32 * (M * V) + 32 * (M * h) + 32 * (c * c)
low_join V M ρ t h c v l r s =
    cancel (16 * V * V) (32 * (t * t) + 31 * (c * M)) (32 * (M * V) + 32 * (M * h) + 32 * (c * c)) (mul-pos (mul-pos (omega arith) v) v)
    (omega (arith, mul-le-mul_left (M * c * (4 * V)) l, mul-le-mul_left (32 * M) r))

low_end : (M V t h c f : ℕ) → V ≤ M → f + 32 * h ≡ 31 * c → 32 * (c * c) < f * V → 32 * (t * t) + 31 * (c * M) ≤ 32 * (M * V) + 32 * (M * h) + 32 * (c * c) → t * t < M * V
low_end M V t h c f m e g s = cancel< 32 (t * t) (M * V) (omega (arith, ap (λ x. x * M) e, mul-le-mul_left f m))

pub root_low : (V M ρ T G h b : ℕ) → 0 < V → Range V M → 128 * h ≤ V → b ≤ G → 32 * h ≤ 31 * (G - b) → 32 * ((G - b) * (G - b)) < (31 * (G - b) - 32 * h) * V → Rec V M ρ h
    → 2 * T * (4 * V) ≤ M * ρ + b * (4 * V) → G ≤ 2 * T → (2 * T - G) * (2 * T - G) < M * V
root_low V M ρ T G h b v m hs bg f f' r n tg =
    let l = ρ_large V M ρ h v m.1 hs r.0 in
    let c = G - b in
    let t = 2 * T - G in
    let e : t + c + b ≡ 2 * T = omega arith in
    let s = over (t * (4 * V)) (c * (4 * V)) (M * ρ) (sum t c e) in
    low_end M V t h c (31 * c - 32 * h) m.0 (omega arith) f' (low_join V M ρ t h c v l r.1 s)
  where
    sum : (t c : ℕ) → t + c + b ≡ 2 * T → t * (4 * V) + c * (4 * V) ≤ M * ρ
    sum t c e = omega (arith, ap (λ x. x * (4 * V)) e)

-- the shift keeps m = T / G
keep_high : (G X m R : ℕ) → 0 < G → R ≤ (2 * m + 3) * G → 4 * (G * G) * X < R * R → X ≤ m * m + 3 * m + 2
keep_high G X m R g r h =
    let a : G * G * (4 * X) < G * G * ((2 * m + 3) * (2 * m + 3)) = omega (arith, mul-le-mul r r) in
    let b = cancel< (G * G) (4 * X) ((2 * m + 3) * (2 * m + 3)) a in
    omega arith

keep_low : (G X n R : ℕ) → 0 < G → (2 * n + 1) * G ≤ R → R * R < 4 * (G * G) * X → n * n + n + 1 ≤ X
keep_low G X n R g r h =
    let a : G * G * ((2 * n + 1) * (2 * n + 1)) < G * G * (4 * X) = omega (arith, mul-le-mul r r) in
    let b = cancel< (G * G) ((2 * n + 1) * (2 * n + 1)) (4 * X) a in
    omega arith

keep_some : (V M G m R : ℕ) → 0 < G → V ≤ M → 8 * G ≤ V → R ≤ (2 * m + 3) * G → M * V < R * R → 3 ≤ m
keep_some V M G m R g v w r h =
    let a : G * G * (8 * 8) < G * G * ((2 * m + 3) * (2 * m + 3)) = omega (arith, mul-le-mul r r, mul-le-mul w w, mul-le-mul_right V v) in
    let b = cancel< (G * G) 64 ((2 * m + 3) * (2 * m + 3)) a in
    by_contra 3 m (λ q. no (omega arith) b)
  where
    no : m ≤ 2 → 64 < (2 * m + 3) * (2 * m + 3) → ⊥
    no q b =
        let r : 2 * m + 3 ≤ 7 = omega arith in
        let s : (2 * m + 3) * (2 * m + 3) ≤ 49 = mul-le-mul r r in
        omega arith

pub kept : (V M ρ T G h a b X : ℕ) → 0 < V → Range V M → 128 * h ≤ V → Final V G h a b → Rec V M ρ h → Near V M ρ (2 * T) a b → 4 * (G * G) * X ≡ M * V → Kept X (T / G)
kept V M ρ T G h a b X v m hs f r n e =
    go (T / G) (div-mul-le_self T G) (lt-div-mul-add f.some)
  where
    hi : M * V < (2 * T + G) * (2 * T + G)
    hi = root_high V M ρ T G h a v m hs f.up f.high r n.0

    lo : 32 * h ≤ 31 * (G - b) → G ≤ 2 * T → (2 * T - G) * (2 * T - G) < M * V
    lo q g = root_low V M ρ T G h b v m hs f.down q f.low r n.1 g

    pos : (x y z : ℕ) → z < (x - y) * V → y ≤ x
    pos x y z h = by_contra y x (λ g. let d : x - y ≡ 0 = omega arith in omega (arith, ap (λ i. i * V) d))

    part : (c : ℕ) → 32 * (c * c) < (31 * c - 32 * h) * V → 32 * h ≤ 31 * c
    part c g = pos (31 * c) (32 * h) (32 * (c * c)) g

    rest : (n : ℕ) → suc n * G ≤ T → T < suc n * G + G → 4 * (G * G) * X < (2 * T + G) * (2 * T + G) → Kept X (suc n)
    rest n k l u =
        let some = f.some in
        let tg : G ≤ 2 * T = omega arith in
        let q : (2 * n + 1) * G ≤ 2 * T - G = omega arith in
        let d : (2 * T - G) * (2 * T - G) < 4 * (G * G) * X = rw e (lo (part (G - b) f.low) tg) in
        let low = keep_low G X n (2 * T - G) some q d in
        let high = keep_high G X (suc n) (2 * T + G) some (omega arith) u in
        record { some = omega arith; low = omega arith; high = high }

    go : (m' : ℕ) → m' * G ≤ T → T < m' * G + G → Kept X m'
    go zero k l = absurd (none (keep_some V M G 0 (2 * T + G) f.some m.0 f.room (omega arith) hi))
      where
        none : 3 ≤ 0 → ⊥
        none q = omega arith
    go (suc n) k l = rest n k l (rw e hi)

-- what the two differences come to
diff_sum : (W X s m x0 xq n0 nq d0 q0 d1 q1 : ℕ) → W * xq + x0 ≡ X → W * nq + n0 ≡ s → n0 < W → W * q0 + d0 ≡ x0 + W - n0 → d0 < W → W * q1 + d1 ≡ m + W - d0
    → d1 + X + W * (q1 + nq) ≡ s + m + W * (q0 + xq)
diff_sum W X s m x0 xq n0 nq d0 q0 d1 q1 a b c d e f = omega arith

module _ (H X m : ℕ) (pos : 0 < H) where
  diff_fact : (A : ℕ) × (B : ℕ) × (diff1 H X m + X + 2 * H * A ≡ m * m + m + 2 * H * B)
  diff_fact =
      let W = 2 * H in
      let d0 = diff0 H X m in
      let x0 = X % W in
      let n0 = m * m % W in (
        (m + W - d0) / W + m * m / W,
        (x0 + W - n0) / W + X / W,
        diff_sum W X (m * m) m x0 (X / W) n0 (m * m / W) d0 ((x0 + W - n0) / W) (diff1 H X m) ((m + W - d0) / W)
            (div-add-mod X W) (div-add-mod (m * m) W) (mod-lt (m * m) (omega arith)) (div-add-mod (x0 + W - n0) W) (mod-lt (x0 + W - n0) (omega arith)) (div-add-mod (m + W - d0) W),
      )

  diff_small : diff1 H X m < 2 * H
  diff_small = mod-lt (m + 2 * H - diff0 H X m) (omega arith)

  bit_none : X ≤ m * m + m → m * m + m < X + H → diff1 H X m / H ≡ 0
  bit_none g l = go (diff1 H X m) diff_fact.0 diff_fact.1 diff_small diff_fact.2
    where
      go : (d A B : ℕ) → d < 2 * H → d + X + 2 * H * A ≡ m * m + m + 2 * H * B → d / H ≡ 0
      go d A B s e =
          let z = m * m + m - X in
          let k : d ≡ z = same_mod (2 * H) d z A B s (omega arith) (omega arith) in
          div-eq_of_lt (omega arith)

  bit_one : m * m + m < X → X ≤ m * m + m + H → diff1 H X m / H ≡ 1
  bit_one g l = go (diff1 H X m) diff_fact.0 diff_fact.1 diff_small diff_fact.2
    where
      go : (d A B : ℕ) → d < 2 * H → d + X + 2 * H * A ≡ m * m + m + 2 * H * B → d / H ≡ 1
      go d A B s e =
          let z = m * m + m + 2 * H - X in
          let k : d ≡ z = same_mod (2 * H) d z (A + 1) B s (omega arith) (omega arith) in
          div-eq_of_lt-le H (omega arith) (omega arith)

  -- the digit above: m' = m + ⌊d1 / H⌋ is the nearest root
  pub rounded : Kept X m → 2 * m + 2 ≤ H → Nearest X (m + diff1 H X m / H)
  rounded k h =
      let klow = k.low in
      let khigh = k.high in
      let ksome = k.some in
      ways (m * m + m) X (Nearest X (m + diff1 H X m / H))
      (λ g. rw (bit_one g (omega arith)) (record { low = omega arith; high = omega arith }))
      (λ g. rw (bit_none g (omega arith)) (record { low = omega arith; high = omega arith }))

-- m ≤ 2 ^ (p + 1) where X < 2 ^ (2 p + 2)
pub kept_below : (X m Q : ℕ) → Kept X m → X < 4 * (Q * Q) → m ≤ 2 * Q
kept_below X m Q k l = by_contra m (2 * Q) (λ g. no (m - (2 * Q + 1)) (omega arith))
  where
    klow : m * m + 1 ≤ X + m
    klow = k.low

    all : (d : ℕ) → (d + (2 * Q + 1)) * (d + (2 * Q + 1)) + 1 ≤ X + (d + (2 * Q + 1)) → ⊥
    all d g = omega arith

    no : (d : ℕ) → d + (2 * Q + 1) ≡ m → ⊥
    no d e = all d (rw e klow)
