-- The root of a positive pattern, from the roots of words.
use Rattle.std.proofs.Common.{◌≡◌, ℕ, zero, suc, ◌+◌, ◌-◌, ◌*◌, ◌/◌, ◌%◌, ◌^◌, ◌<◌, ◌≤◌, sym, refl, ap, ◌∙◌, subst, ap₂, subst₂, inl, inr, ⊎_elim, le_trans, mul-le-mul_right, mod-lt, mul_assoc, div-add-mod', mul-one, arith}
use native.Mathlib.Omega.{by_contra}
use native.Mathlib.Nat.{eq_of_mul-eq-mul_right, pow-succ', pow-le-pow_right}
use lib.Count.{count_leading_zeros}
use Rattle.std.proofs.lemmas.Nat.{pow_pos, pow-add, leading_top, div_below}
use Rattle.std.proofs.lemmas.Bool.{lt-ltb, le-ltb, eq-eqb, ne_eqb, cases_eq}
use Rattle.width.specs.Shape.{Shape, Sound, bias, infinity, reading}
use Rattle.rootlaws.specs.Whole.{Nearest}
use Rattle.rootlaws.specs.Roots.{Between, target}
use Rattle.rootlaws.specs.Split.{shift_of, sig_of, exp_of, word_of, joined, lift}
use Rattle.rootlaws.proofs.Square.{ways}
use Rattle.rootlaws.proofs.Digits.{digits}
use Rattle.rootlaws.proofs.Readings.{reading_field, reading_low, nearest_root}

-- a pattern split: reading · 2^n = sig · 2^g, and the exponent with the bias is t = g + 1 + bias - n
pub record Split (S : Shape) (ix n g t sig : ℕ) : Type 0 where
  pub low : 2 ^ S.sig ≤ sig
  pub high : sig < 2 * 2 ^ S.sig
  pub scale : reading (2 ^ S.sig) ix * 2 ^ n ≡ sig * 2 ^ g
  pub exp : t + n ≡ g + 1 + bias S
  pub few : n ≤ S.sig

-- the bias is odd, since it is one less than a power of 2 that is not 1
pub odd_bias : (S : Shape) → Sound S → bias S % 2 ≡ 1
odd_bias S ok = go S.half ok.deep
  where
    half : (x : ℕ) → 3 ≤ 2 * x - 1 → (2 * x - 1) % 2 ≡ 1
    half x h = omega arith

    go : (k : ℕ) → S.sig + 3 ≤ 2 ^ k - 1 → (2 ^ k - 1) % 2 ≡ 1
    go zero h = absurd (none h)
      where
        none : S.sig + 3 ≤ 0 → ⊥
        none h = omega arith
    go (suc k) h =
        let e = pow-succ' 2 k in
        ap (λ x. (x - 1) % 2) e ∙ half (2 ^ k) (omega arith)

pow4 : (a b c d : ℕ) → 2 ^ a * 2 ^ b * (2 ^ c * 2 ^ d) ≡ 2 ^ (a + b + (c + d))
pow4 a b c d = ap₂ (λ x y. x * y) (sym (pow-add 2 a b)) (sym (pow-add 2 c d)) ∙ sym (pow-add 2 (a + b) (c + d))

-- reading · C = X · 4^(e - 1), where X = sig 2^x
scaled : (v n g sig k x e : ℕ) → v * 2 ^ n ≡ sig * 2 ^ g → g + k ≡ x + n + (suc e + suc e) → v * 2 ^ k ≡ sig * 2 ^ x * (2 ^ suc e * 2 ^ suc e)
scaled v n g sig k x e h i =
    eq_of_mul-eq-mul_right (2 ^ n) (pow_pos n) (v * 2 ^ k) (sig * 2 ^ x * (2 ^ suc e * 2 ^ suc e))
    (turn v (2 ^ n) (2 ^ k) ∙ ap (λ y. y * 2 ^ k) h ∙ mul_assoc sig (2 ^ g) (2 ^ k)
    ∙ ap (λ y. sig * y) (sym (pow-add 2 g k) ∙ ap (λ y. 2 ^ y) i ∙ sym (pow4 x n (suc e) (suc e))) ∙ back sig (2 ^ x) (2 ^ n) (2 ^ suc e * 2 ^ suc e))
  where
    turn : (a b c : ℕ) → a * c * b ≡ a * b * c
    turn a b c = omega arith

    back : (a b c d : ℕ) → a * (b * c * d) ≡ a * b * d * c
    back a b c d = omega arith

-- the root of a word has sig + 1 digits
pub record Word (S : Shape) (X m : ℕ) : Type 0 where
  pub near : Nearest X m
  pub low : 2 ^ S.sig ≤ m
  pub high : m < 2 * 2 ^ S.sig

-- n is the root of ix, and is normal, with the exponent e
pub record Placed (S : Shape) (ix e n : ℕ) : Type 0 where
  pub root : Between (2 ^ S.sig) (target S ix) n
  pub high : n < suc e * 2 ^ S.sig

-- the word of a significand
module _ (S : Shape) (sig : ℕ) (l : 2 ^ S.sig ≤ sig) (u : sig < 2 * 2 ^ S.sig) where
  low_word : (2 ^ (S.sig + S.half) ≤ sig * 2 ^ S.half) × (sig * 2 ^ S.half < 2 * 2 ^ (S.sig + S.half))
  low_word =
      let pe = pow-add 2 S.sig S.half in
      (subst (λ x. x ≤ sig * 2 ^ S.half) (sym pe) (mul-le-mul_right (2 ^ S.half) l), top (2 ^ S.sig) (2 ^ S.half) (2 ^ (S.sig + S.half)) pe (pow_pos S.half) (mul-le-mul_right (2 ^ S.half) u))
    where
      top : (Q E V : ℕ) → V ≡ Q * E → 0 < E → suc sig * E ≤ 2 * Q * E → sig * E < 2 * V
      top Q E V e p h = omega arith

  high_word : sig * 2 ^ suc S.half ≡ 2 * (sig * 2 ^ S.half)
  high_word = ap (λ y. sig * y) (pow-succ' 2 S.half) ∙ turn sig (2 ^ S.half)
    where
      turn : (a b : ℕ) → a * (2 * b) ≡ 2 * (a * b)
      turn a b = omega arith

  pub word_range : (t : ℕ) → (2 ^ (S.sig + S.half) ≤ word_of S t sig) × (word_of S t sig < 4 * 2 ^ (S.sig + S.half))
  word_range t =
      let w = low_word in
      let h = high_word in
      let w0 = w.0 in
      let w1 = w.1 in
      ⊎_elim (λ (e : t % 2 ≡ 0). rw (eq-eqb (t % 2) 0 e) (w0, omega arith))
      (λ (e : t % 2 ≡ 0 → ⊥). rw (ne_eqb (t % 2) 0 e) (omega arith, omega arith)) (cases_eq (t % 2) 0)

  module _ (ok : Sound S) (m : ℕ) where
    -- an even sum of exponent and bias: X = sig 2^sig
    even_word : Nearest (sig * 2 ^ S.half * 2 ^ lift S) m → Word S (sig * 2 ^ S.sig) m
    even_word n =
        let Q = 2 ^ S.sig in
        let wd = ok.wide in
        let x : sig * 2 ^ S.half * 2 ^ lift S ≡ sig * Q = mul_assoc sig (2 ^ S.half) (2 ^ lift S) ∙ ap (λ y. sig * y) (sym (pow-add 2 S.half (lift S)) ∙ ap (λ y. 2 ^ y) (omega arith)) in
        let nn = subst (λ y. Nearest y m) x n in
        let d = digits sig (sig * Q) m Q (pow_pos S.sig) l u (inl refl) nn in
        record { near = nn; low = d.0; high = d.1 }

    -- an odd one: X = sig 2^(sig + 1)
    odd_word : Nearest (sig * 2 ^ suc S.half * 2 ^ lift S) m → Word S (sig * 2 ^ suc S.sig) m
    odd_word n =
        let Q = 2 ^ S.sig in
        let F = 2 ^ suc S.half in
        let wd = ok.wide in
        let x : sig * F * 2 ^ lift S ≡ sig * 2 ^ suc S.sig = mul_assoc sig F (2 ^ lift S) ∙ ap (λ y. sig * y) (sym (pow-add 2 (suc S.half) (lift S)) ∙ ap (λ y. 2 ^ y) (omega arith)) in
        let nn = subst (λ y. Nearest y m) x n in
        let d = digits sig (sig * 2 ^ suc S.sig) m Q (pow_pos S.sig) l u (inr (ap (λ y. sig * y) (pow-succ' 2 S.sig))) nn in
        record { near = nn; low = d.0; high = d.1 }

    -- the root of either word
    pub word_digits : (t : ℕ) → Nearest (word_of S t sig * 2 ^ lift S) m → (2 ^ S.sig ≤ m) × (m < 2 * 2 ^ S.sig)
    word_digits t n =
        ⊎_elim (λ (e : t % 2 ≡ 0). let w = even_word (rw (eq-eqb (t % 2) 0 e) at n) in (w.low, w.high))
        (λ (e : t % 2 ≡ 0 → ⊥). let w = odd_word (rw (ne_eqb (t % 2) 0 e) at n) in (w.low, w.high)) (cases_eq (t % 2) 0)

module _ (S : Shape) (ok : Sound S) (ix n g sig m : ℕ) where
  placed : (e : ℕ) → m < 2 * 2 ^ S.sig → Between (2 ^ S.sig) (target S ix) (joined S e m) → Placed S ix e (joined S e m)
  placed e u r = record { root = r; high = over (2 ^ S.sig) (pow_pos S.sig) u }
    where
      over : (Q : ℕ) → 0 < Q → m < 2 * Q → e * Q + (m - Q) < suc e * Q
      over Q q u = omega arith

  even_case : (e : ℕ) → Split S ix n g (suc (suc e) * 2) sig → Nearest (sig * 2 ^ S.half * 2 ^ lift S) m → Placed S ix (suc (suc e)) (joined S (suc (suc e)) m)
  even_case e h r =
      let Q = 2 ^ S.sig in
      let w = even_word S sig h.low h.high ok m r in
      let he = h.exp in
      let dp = ok.deep in
      placed (suc (suc e)) w.high
      (nearest_root Q (sig * Q) m e (target S ix) (pow_pos S.sig) w.low w.high (mul-le-mul_right Q h.low) w.near
      (scaled (reading Q ix) n g sig (bias S + S.sig - 1) S.sig e h.scale (omega arith)))

  odd_case : (e : ℕ) → Split S ix n g (suc (suc e) * 2 + 1) sig → Nearest (sig * 2 ^ suc S.half * 2 ^ lift S) m → Placed S ix (suc (suc e)) (joined S (suc (suc e)) m)
  odd_case e h r =
      let Q = 2 ^ S.sig in
      let w = odd_word S sig h.low h.high ok m r in
      let he = h.exp in
      let dp = ok.deep in
      placed (suc (suc e)) w.high
      (nearest_root Q (sig * 2 ^ suc S.sig) m e (target S ix) (pow_pos S.sig) w.low w.high
      (subst (λ y. Q * Q ≤ sig * y) (sym (pow-succ' 2 S.sig)) (square Q h.low)) w.near
      (scaled (reading Q ix) n g sig (bias S + S.sig - 1) (suc S.sig) e h.scale (omega arith)))
    where
      square : (Q : ℕ) → Q ≤ sig → Q * Q ≤ sig * (2 * Q)
      square Q h = omega (arith, mul-le-mul_right Q h)

  core : (t : ℕ) → Split S ix n g t sig → Nearest (word_of S t sig * 2 ^ lift S) m → Placed S ix (t / 2) (joined S (t / 2) m)
  core t h r =
      let he = h.exp in
      let hf = h.few in
      let dp = ok.deep in
      go (t / 2 - 2) (t % 2) (omega arith) refl (omega arith)
    where
      go : (e k : ℕ) → t ≡ suc (suc e) * 2 + k → t % 2 ≡ k → k < 2 → Placed S ix (t / 2) (joined S (t / 2) m)
      go e zero i j u =
          let a : t ≡ suc (suc e) * 2 = omega arith in
          let c : t / 2 ≡ suc (suc e) = omega arith in
          rw c (even_case e (subst (λ y. Split S ix n g y sig) a h) (rw (eq-eqb (t % 2) 0 j) at r))
      go e (suc zero) i j u =
          let c : t / 2 ≡ suc (suc e) = omega arith in
          rw c (odd_case e (subst (λ y. Split S ix n g y sig) i h) (rw (ne_eqb (t % 2) 0 (λ z. omega arith)) at r))
      go e (suc (suc k)) i j u = absurd (none u)
        where
          none : suc (suc k) < 2 → ⊥
          none u = omega arith

-- the split of a normal pattern
split_normal : (S : Shape) (ix : ℕ) → 2 ^ S.sig ≤ ix → Split S ix 0 (ix / 2 ^ S.sig - 1) (ix / 2 ^ S.sig + bias S) (2 ^ S.sig + ix % 2 ^ S.sig)
split_normal S ix h = go (ix / 2 ^ S.sig) (ix % 2 ^ S.sig) (mod-lt ix (pow_pos S.sig)) (div-add-mod' ix (2 ^ S.sig)) h
  where
    go : (d f : ℕ) → f < 2 ^ S.sig → d * 2 ^ S.sig + f ≡ ix → 2 ^ S.sig ≤ ix → Split S ix 0 (d - 1) (d + bias S) (2 ^ S.sig + f)
    go zero f p e h = absurd (none p e h)
      where
        none : f < 2 ^ S.sig → 0 * 2 ^ S.sig + f ≡ ix → 2 ^ S.sig ≤ ix → ⊥
        none p e h = omega arith
    go (suc d) f p e h =
        let o : suc d - 1 ≡ d = omega arith in
        record {
          low = omega arith;
          high = omega arith;
          scale = mul-one (reading (2 ^ S.sig) ix) ∙ ap (λ y. reading (2 ^ S.sig) y) (sym e) ∙ reading_field (2 ^ S.sig) d f p ∙ ap (λ y. (2 ^ S.sig + f) * 2 ^ y) (sym o);
          exp = omega arith;
          few = omega arith;
        }

-- and of a subnormal one
split_small : (S : Shape) (ix : ℕ) → 0 < ix → ix < 2 ^ S.sig → S.sig + 3 ≤ bias S → Split S ix (shift_of S ix) 0 (1 + bias S - shift_of S ix) (ix * 2 ^ shift_of S ix)
split_small S ix z h d =
    let w = S.sig + S.half + 2 in
    let wide : 2 ^ S.sig ≤ 2 ^ w = pow-le-pow_right {n = 2} (omega arith) {i = S.sig} {j = w} (omega arith) in
    let t = leading_top w ix z (le_trans h wide) in
    go (count_leading_zeros w ix) t.0 t.1 t.2 t.3
  where
    upper : (A B Q : ℕ) → A * B ≡ Q → 0 < B → ix < 2 * A → ix * B < 2 * Q
    upper A B Q e p g = omega (arith, mul-le-mul_right B g)

    go : (lz j : ℕ) → lz + suc j ≡ S.sig + S.half + 2 → 2 ^ j ≤ ix → ix < 2 ^ suc j → Split S ix (lz - suc S.half) 0 (1 + bias S - (lz - suc S.half)) (ix * 2 ^ (lz - suc S.half))
    go lz j e l u =
        let jp : j ≤ S.sig = by_contra j S.sig (λ g. let x = pow-le-pow_right {n = 2} (omega arith) {i = S.sig} {j = j} (omega arith) in omega arith) in
        let i : j + (lz - suc S.half) ≡ S.sig = omega arith in
        let a : 2 ^ j * 2 ^ (lz - suc S.half) ≡ 2 ^ S.sig = sym (pow-add 2 j (lz - suc S.half)) ∙ ap (λ y. 2 ^ y) i in
        let b = pow-succ' 2 j in
        record {
          low = subst (λ y. y ≤ ix * 2 ^ (lz - suc S.half)) a (mul-le-mul_right (2 ^ (lz - suc S.half)) l);
          high = upper (2 ^ j) (2 ^ (lz - suc S.half)) (2 ^ S.sig) a (pow_pos (lz - suc S.half)) (subst (λ y. ix < y) b u);
          scale = ap (λ y. y * 2 ^ (lz - suc S.half)) (reading_low (2 ^ S.sig) ix h) ∙ sym (mul-one (ix * 2 ^ (lz - suc S.half)));
          exp = omega arith;
          few = omega arith;
        }

-- the significand has its leading 1
pub sig_range : (S : Shape) (ix : ℕ) → 0 < ix → S.sig + 3 ≤ bias S → (2 ^ S.sig ≤ sig_of S ix) × (sig_of S ix < 2 * 2 ^ S.sig)
sig_range S ix z d =
    ways ix (2 ^ S.sig) ((2 ^ S.sig ≤ sig_of S ix) × (sig_of S ix < 2 * 2 ^ S.sig))
    (λ h. rw (lt-ltb ix (2 ^ S.sig) h) ((split_small S ix z h d).low, (split_small S ix z h d).high))
    (λ h. rw (le-ltb ix (2 ^ S.sig) h) ((split_normal S ix h).low, (split_normal S ix h).high))

-- a subnormal is shifted by 1 to p places, and has that many more leading zeros than a normal pattern
pub shift_range : (S : Shape) (ix : ℕ) → 0 < ix → ix < 2 ^ S.sig → S.sig + 3 ≤ bias S → (1 ≤ shift_of S ix) × (shift_of S ix ≤ S.sig) × (suc S.half < count_leading_zeros (S.sig + S.half + 2) ix)
shift_range S ix z h d =
    let s = split_small S ix z h d in
    let a = some (shift_of S ix) s.low in
    (a, s.few, omega arith)
  where
    some : (n : ℕ) → 2 ^ S.sig ≤ ix * 2 ^ n → 1 ≤ n
    some zero g = absurd (none g)
      where
        none : 2 ^ S.sig ≤ ix * 1 → ⊥
        none g = omega arith
    some (suc n) g = omega arith

-- the exponent and the bias of a finite pattern
pub exp_small : (S : Shape) → Sound S → (ix : ℕ) → ix < infinity S → exp_of S ix ≤ 3 * bias S
exp_small S ok ix h =
    let d = ok.deep in
    ways ix (2 ^ S.sig) (exp_of S ix ≤ 3 * bias S)
    (λ g. rw (lt-ltb ix (2 ^ S.sig) g) (omega arith))
    (λ g. rw (le-ltb ix (2 ^ S.sig) g) (let x = div_below ix (2 ^ S.sig) (2 * bias S + 1) (pow_pos S.sig) h in omega arith))

-- The root of a positive pattern: the exponent is half of the sum, and the significand is the root of the word.
module _ (S : Shape) (ok : Sound S) (ix m : ℕ) (z : 0 < ix) (r : Nearest (word_of S (exp_of S ix) (sig_of S ix) * 2 ^ lift S) m) where
  every_root : Placed S ix (exp_of S ix / 2) (joined S (exp_of S ix / 2) m)
  every_root =
      ways ix (2 ^ S.sig) (Placed S ix (exp_of S ix / 2) (joined S (exp_of S ix / 2) m))
      (λ h. let a : exp_of S ix ≡ 1 + bias S - shift_of S ix = rw (lt-ltb ix (2 ^ S.sig) h) in
      let c : sig_of S ix ≡ ix * 2 ^ shift_of S ix = rw (lt-ltb ix (2 ^ S.sig) h) in
      subst (λ t. Placed S ix (t / 2) (joined S (t / 2) m)) (sym a)
      (core S ok ix (shift_of S ix) 0 (ix * 2 ^ shift_of S ix) m (1 + bias S - shift_of S ix) (split_small S ix z h ok.deep) (subst₂ (λ t s. Nearest (word_of S t s * 2 ^ lift S) m) a c r)))
      (λ h. let a : exp_of S ix ≡ ix / 2 ^ S.sig + bias S = rw (le-ltb ix (2 ^ S.sig) h) in
      let c : sig_of S ix ≡ 2 ^ S.sig + ix % 2 ^ S.sig = rw (le-ltb ix (2 ^ S.sig) h) in
      subst (λ t. Placed S ix (t / 2) (joined S (t / 2) m)) (sym a)
      (core S ok ix 0 (ix / 2 ^ S.sig - 1) (2 ^ S.sig + ix % 2 ^ S.sig) m (ix / 2 ^ S.sig + bias S) (split_normal S ix h) (subst₂ (λ t s. Nearest (word_of S t s * 2 ^ lift S) m) a c r)))

  pub root_between : Between (2 ^ S.sig) (target S ix) (joined S (exp_of S ix / 2) m)
  root_between = every_root.root

  -- of a finite pattern the root and the next float are finite
  pub root_finite : ix < infinity S → suc (joined S (exp_of S ix / 2) m) < infinity S
  root_finite h =
      let x = every_root in
      let y = exp_small S ok ix h in
      let d = ok.deep in
      let e : suc (exp_of S ix / 2) < 2 * bias S + 1 = omega arith in
      under (joined S (exp_of S ix / 2) m) (exp_of S ix / 2) (2 ^ S.sig) x.high e
    where
      under : (n e Q : ℕ) → n < suc e * Q → suc e < 2 * bias S + 1 → suc n < (2 * bias S + 1) * Q
      under n e zero a b = absurd (none a)
        where
          none : n < suc e * 0 → ⊥
          none a = omega arith
      under n e (suc Q) a b = omega (arith, mul-le-mul_right (suc Q) b)
