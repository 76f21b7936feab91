-- The parts of the ported root, as code over the layout works them out.
use Rattle.std.proofs.Common.{◌≡◌, ℕ, zero, suc, ◌+◌, ◌-◌, ◌*◌, ◌/◌, ◌%◌, ◌^◌, ◌<◌, ◌≤◌, Bool, true, false, not, ◌&&◌, ltb, leb, get_or, sym, refl, ap, ◌∙◌, subst, ap₂, ⊎_elim, true≢false, le_trans, mul-le-mul_right, mod-lt, mod-eq_of_lt, mul-le-mul_left, one-mul, div-add-mod', zero-mul, arith}
use native.Mathlib.Nat.{add-mod_right, div-eq_of_lt, pow-succ', pow-le-pow_right}
use lib.Bits.{bit_and, bit_or}
use Rattle.std.proofs.lemmas.Nat.{pow_pos, pow-add, div_below, le-div}
use Rattle.std.proofs.lemmas.Bool.{lt-ltb, le-ltb, le-leb, lt-leb, eq-eqb, ne_eqb, cases_eq}
use Rattle.width.specs.Shape.{Shape, Sound, width, bias, sign, infinity}
use Rattle.rootlaws.specs.Gold.{gold}
use Rattle.rootlaws.specs.Plan.{Plan, Keeps}
use Rattle.rootlaws.specs.Split.{Stored, shift_of, sig_of, exp_of, word_of, word_at, field_of, lift}
use Rattle.rootlaws.specs.Table.{guesses, index}
use Rattle.rootlaws.specs.Whole.{Nearest}
use Rattle.rootlaws.specs.Words.{Kept, diff0, diff1}
use Rattle.rootlaws.proofs.Bits.{top_sum, exponent}
use Rattle.rootlaws.proofs.Fields.{stored_is, field_is, word_is, half_is, tied, bit_test, shifted_word, shifted_half, unshifted_word_odd, unshifted_word_even, word_index}
use Rattle.rootlaws.proofs.Last.{rounded, kept_below}
use Rattle.rootlaws.proofs.Sizes.{word_range as whole-range, sign_range}
use Rattle.rootlaws.proofs.Split.{odd_bias, shift_range, word_range}
use Rattle.rootlaws.proofs.Square.{ways}
use Rattle.root.proofs.Classes.{infinity_clear, exp_fits}
use Rattle.root.proofs.Normal.{bias_small}

-- ---- the first guess

pub guess_word : (e b : ℕ) → e < 65536 → 16 ≤ b → e % 2 ^ b * 2 ^ (b - 16) % 2 ^ b ≡ e * 2 ^ (b - 16)
guess_word e b h w =
    let i : b ≡ 16 + (b - 16) = omega arith in
    go (2 ^ b) (2 ^ (b - 16)) (ap (λ x. 2 ^ x) i ∙ pow-add 2 16 (b - 16)) (pow_pos (b - 16))
  where
    go : (W Q : ℕ) → W ≡ 65536 * Q → 0 < Q → e % W * Q % W ≡ e * Q
    go W Q p q = ap (λ x. x * Q % W) (mod-eq_of_lt {n = e} {m = W} (omega arith)) ∙ mod-eq_of_lt {n = e * Q} {m = W} (omega (arith, mul-le-mul_right Q h))

pub index_low : (x : ℕ) → x % 2 ^ 32 % 128 ≡ x % 128
index_low x = omega arith

-- ---- the word of a stored pattern

sig_at : (S : Shape) (x : ℕ) → (2 ^ S.sig ≤ 2 ^ S.sig + x % 2 ^ S.sig) × (2 ^ S.sig + x % 2 ^ S.sig < 2 * 2 ^ S.sig)
sig_at S x = let l = mod-lt x (pow_pos S.sig) in (omega arith, omega arith)

pub word_at_range : (S : Shape) (x : ℕ) → (2 ^ (S.sig + S.half) ≤ word_at S x) × (word_at S x < 4 * 2 ^ (S.sig + S.half))
word_at_range S x =
    let r = sig_at S x in
    ⊎_elim (λ (e : x / 2 ^ S.sig % 2 ≡ 0). rw (eq-eqb (x / 2 ^ S.sig % 2) 0 e) (word_range S (2 ^ S.sig + x % 2 ^ S.sig) r.0 r.1 1))
    (λ (e : x / 2 ^ S.sig % 2 ≡ 0 → ⊥). rw (ne_eqb (x / 2 ^ S.sig % 2) 0 e) (word_range S (2 ^ S.sig + x % 2 ^ S.sig) r.0 r.1 0)) (cases_eq (x / 2 ^ S.sig % 2) 0)

-- ---- what is kept

module _ (S : Shape) (ok : Sound S) (P : Plan) (keeps : Keeps P S) (bi : P.bits ≡ width S) (w : 16 ≤ P.bits) (x M : ℕ) (mi : M ≡ word_at S x) where
  -- the index bits of the pattern are the index of the word
  index_is : x / 2 ^ (S.sig - 6) % 128 ≡ index (2 ^ (P.bits - 16)) M
  index_is =
      let s = ok.six in
      let a : 64 * 2 ^ (S.sig - 6) ≡ 2 ^ S.sig = sym (pow-add 2 6 (S.sig - 6)) ∙ ap (λ y. 2 ^ y) (let o : 6 + (S.sig - 6) ≡ S.sig = omega arith in o) in
      let b : 256 * 2 ^ (P.bits - 16) ≡ 2 ^ (S.sig - 6) * 2 ^ S.half =
      sym (pow-add 2 8 (P.bits - 16)) ∙ ap (λ y. 2 ^ y) (let o : 8 + (P.bits - 16) ≡ S.sig - 6 + S.half = omega arith in o) ∙ pow-add 2 (S.sig - 6) S.half in
      word_index S x (S.sig - 6) (2 ^ (P.bits - 16)) a b ∙ ap (λ y. index (2 ^ (P.bits - 16)) y) (sym mi)

  pub kept_word : (g rec root r eb : ℕ) → g ≡ get_or guesses (x / 2 ^ (S.sig - 6) % 128) 0 * 2 ^ (P.short_bits - 16)
      → rec ≡ (gold (2 ^ (P.short_bits - 2)) P.short_mulh P.short_rounds false g (M / 2 ^ (P.bits - P.short_bits))).rec
      → root ≡ (gold (2 ^ (P.bits - 2)) P.mulh P.rounds true (rec * 2 ^ (P.bits - P.short_bits) % 2 ^ P.bits) M).root
      → eb ≡ suc S.half → r ≡ root / 2 ^ (eb - 2) → Kept (M * 2 ^ lift S) r
  kept_word g rec root r eb gi ri ti ei oi =
      let R = word_at_range S x in
      let i = gi ∙ ap (λ y. get_or guesses y 0 * 2 ^ (P.short_bits - 16)) index_is in
      let j = ri ∙ ap (λ y. (gold (2 ^ (P.short_bits - 2)) P.short_mulh P.short_rounds false y (M / 2 ^ (P.bits - P.short_bits))).rec) i in
      let k = ti ∙ ap (λ y. (gold (2 ^ (P.bits - 2)) P.mulh P.rounds true (y * 2 ^ (P.bits - P.short_bits) % 2 ^ P.bits) M).root) j in
      let h : eb - 2 ≡ S.half - 1 = omega arith in
      let l = keeps M (subst (λ y. 2 ^ (S.sig + S.half) ≤ y) (sym mi) R.0) (subst (λ y. y < 4 * 2 ^ (S.sig + S.half)) (sym mi) R.1) in
      subst (λ y. Kept (M * 2 ^ lift S) y) (sym (oi ∙ ap₂ (λ y z. y / 2 ^ z) k h)) l

-- ---- the last step

module _ (S : Shape) (ok : Sound S) (bits : ℕ) (bi : bits ≡ width S) where
  twice : 2 ^ bits ≡ 2 * 2 ^ (bits - 1)
  twice = let i : bits ≡ 1 + (bits - 1) = omega arith in ap (λ x. 2 ^ x) i ∙ pow-add 2 1 (bits - 1)

  -- the root's digits are few beside the word's
  room : 4 * 2 ^ S.sig + 2 ≤ 2 ^ (bits - 1)
  room =
      let d = ok.deep in
      let i : bits - 1 ≡ S.sig + (S.half + 1) = omega arith in
      let e = ap (λ x. 2 ^ x) i ∙ pow-add 2 S.sig (S.half + 1) ∙ ap (λ x. 2 ^ S.sig * x) (pow-add 2 S.half 1) in
      wide (2 ^ S.sig) (2 ^ S.half) (2 ^ (bits - 1)) (pow_pos S.sig) (omega arith) e
    where
      wide : (Q E H : ℕ) → 0 < Q → 3 ≤ E → H ≡ Q * (E * 2) → 4 * Q + 2 ≤ H
      wide Q E H q h e = omega (arith, mul-le-mul_left Q h)

  -- M 2^lift < 4 Q²
  target_small : (M : ℕ) → M < 4 * 2 ^ (S.sig + S.half) → M * 2 ^ lift S < 4 * (2 ^ S.sig * 2 ^ S.sig)
  target_small M h =
      let w = ok.wide in
      let i : S.sig + S.half + lift S ≡ S.sig + S.sig = omega arith in
      let e : 2 ^ (S.sig + S.half) * 2 ^ lift S ≡ 2 ^ S.sig * 2 ^ S.sig = sym (pow-add 2 (S.sig + S.half) (lift S)) ∙ ap (λ x. 2 ^ x) i ∙ pow-add 2 S.sig S.sig in
      under (2 ^ (S.sig + S.half)) (2 ^ lift S) (2 ^ S.sig * 2 ^ S.sig) e (pow_pos (lift S)) h
    where
      under : (V L Z : ℕ) → V * L ≡ Z → 0 < L → M < 4 * V → M * L < 4 * Z
      under V L Z e p h = omega (arith, mul-le-mul_right L h)

  pub decided_nearest : (M m r : ℕ) → M < 4 * 2 ^ (S.sig + S.half) → Kept (M * 2 ^ lift S) m
      → r ≡ (m + (m + 2 ^ bits - (M * 2 ^ lift S % 2 ^ bits + 2 ^ bits - m * m % 2 ^ bits) % 2 ^ bits) % 2 ^ bits / 2 ^ (bits - 1)) % 2 ^ bits → Nearest (M * 2 ^ lift S) r
  decided_nearest M m r u k ri =
      let X = M * 2 ^ lift S in
      let H = 2 ^ (bits - 1) in
      let t = twice in
      let q = room in
      let b = kept_below X m (2 ^ S.sig) k (target_small M u) in
      let a : (m + 2 ^ bits - (X % 2 ^ bits + 2 ^ bits - m * m % 2 ^ bits) % 2 ^ bits) % 2 ^ bits ≡ diff1 H X m = ap (λ x. (m + x - (X % x + x - m * m % x) % x) % x) t in
      let n = rounded H X m (pow_pos (bits - 1)) k (omega arith) in
      let s : diff1 H X m / H < 2 = div_below (diff1 H X m) H 2 (pow_pos (bits - 1)) (mod-lt (m + 2 * H - diff0 H X m) (positive H (pow_pos (bits - 1)))) in
      let z : r ≡ m + diff1 H X m / H = ri ∙ ap (λ x. (m + x / H) % 2 ^ bits) a ∙ mod-eq_of_lt {n = m + diff1 H X m / H} {m = 2 ^ bits} (omega arith) in
      subst (λ x. Nearest X x) (sym z) n
    where
      positive : (H : ℕ) → 0 < H → 0 < 2 * H
      positive H h = omega arith

-- ---- the reduction with the exponent in place

-- the mask of the exponent field
exp_mask : (S : Shape) → infinity S ≡ 2 ^ (suc S.half + S.sig) - 2 ^ S.sig
exp_mask S =
    let e = pow-add 2 (suc S.half) S.sig ∙ ap (λ x. x * 2 ^ S.sig) (pow-succ' 2 S.half) in
    less (2 ^ S.half) (2 ^ S.sig) (2 ^ (suc S.half + S.sig)) (pow_pos S.half) e
  where
    less : (E Q Z : ℕ) → 0 < E → Z ≡ 2 * E * Q → (2 * (E - 1) + 1) * Q ≡ Z - Q
    less zero Q Z p e = absurd (none p)
      where
        none : 0 < 0 → ⊥
        none p = omega arith
    less (suc E) Q Z p e = let i : suc E - 1 ≡ E = omega arith in ap (λ y. (2 * y + 1) * Q) i ∙ (let j : (2 * E + 1) * Q ≡ Z - Q = omega arith in j)

module _ (S : Shape) (ok : Sound S) (bits : ℕ) (bi : bits ≡ width S) (x : ℕ) where
  half_bias_small : 4 * (bias S * 2 ^ (S.sig - 1)) ≤ 2 ^ bits
  half_bias_small =
      let s = ok.six in
      let i : bits ≡ S.half + ((S.sig - 1) + 3) = omega arith in
      let e = ap (λ y. 2 ^ y) i ∙ pow-add 2 S.half ((S.sig - 1) + 3) ∙ ap (λ y. 2 ^ S.half * y) (pow-add 2 (S.sig - 1) 3) in
      quarter (2 ^ S.half) (2 ^ (S.sig - 1)) (2 ^ bits) e
    where
      quarter : (E Q W : ℕ) → W ≡ E * (Q * 8) → 4 * ((E - 1) * Q) ≤ W
      quarter zero Q W e = omega arith
      quarter (suc E) Q W e = let i : suc E - 1 ≡ E = omega arith in let j = ap (λ y. 4 * (y * Q)) i in omega arith

  -- half of the bias, one place above the stored bits
  pub half_bias : (bb sb : ℕ) → bb ≡ bias S → sb ≡ S.sig → bb % 2 ^ bits * 2 ^ (sb - 1) % 2 ^ bits ≡ bias S * 2 ^ (S.sig - 1)
  half_bias bb sb ci si =
      let s = ok.six in
      let t = half_bias_small in
      let q = pow_pos bits in
      let b : bias S < 2 ^ bits = under (bias S) (2 ^ (S.sig - 1)) (2 ^ bits) (pow_pos (S.sig - 1)) (omega arith) in
      ap₂ (λ y z. y % 2 ^ bits * 2 ^ (z - 1) % 2 ^ bits) ci si ∙ ap (λ y. y * 2 ^ (S.sig - 1) % 2 ^ bits) (mod-eq_of_lt b) ∙ mod-eq_of_lt {n = bias S * 2 ^ (S.sig - 1)} {m = 2 ^ bits} (omega arith)
    where
      under : (y Q W : ℕ) → 0 < Q → y * Q < W → y < W
      under y Q W q h = omega (arith, mul-le-mul_left y q)

  pub exp_in_place : (hb e mask : ℕ) → x < 2 ^ bits → hb ≡ bias S * 2 ^ (S.sig - 1) → mask ≡ infinity S → e ≡ bit_and ((x / 2 ^ 1 + hb) % 2 ^ bits) mask
      → e ≡ (x / 2 ^ S.sig + bias S) / 2 % 2 ^ suc S.half * 2 ^ S.sig
  exp_in_place hb e mask u hi mi ei =
      let s = ok.six in
      let r = S.sig - 1 in
      let p : suc r ≡ S.sig = omega arith in
      let a : (x / 2 + bias S * 2 ^ r) % 2 ^ bits ≡ x / 2 + bias S * 2 ^ r = mod-eq_of_lt {n = x / 2 + bias S * 2 ^ r} {m = 2 ^ bits} (small (bias S * 2 ^ r) (2 ^ bits) half_bias_small u) in
      let d = div-add-mod' x (2 ^ S.sig) in
      let z = exponent r S.half (x / 2 ^ S.sig) (x % 2 ^ S.sig) (bias S) (subst (λ y. x % 2 ^ S.sig < 2 ^ y) (sym p) (mod-lt x (pow_pos S.sig))) in
      let y = subst (λ y. bit_and ((x / 2 ^ S.sig * 2 ^ y + x % 2 ^ S.sig) / 2 + bias S * 2 ^ r) (2 ^ (suc S.half + y) - 2 ^ y) ≡ (x / 2 ^ S.sig + bias S) / 2 % 2 ^ suc S.half * 2 ^ y) p z in
      ei ∙ ap₂ (λ g h. bit_and ((x / 2 + g) % 2 ^ bits) h) hi mi ∙ ap₂ (λ g h. bit_and g h) a (exp_mask S) ∙ ap (λ g. bit_and (g / 2 + bias S * 2 ^ r) (2 ^ (suc S.half + S.sig) - 2 ^ S.sig)) (sym d) ∙ y
    where
      small : (h W : ℕ) → 4 * h ≤ W → x < W → x / 2 + h < W
      small h W b u = omega arith

  whole : 2 ^ bits ≡ 2 ^ (S.sig + S.half + 2)
  whole = ap (λ y. 2 ^ y) bi

  -- an even field: the top bit is set
  pub word_even_place : (one mask eb : ℕ) → bit_and x one ≡ 0 → one ≡ 2 ^ S.sig → mask ≡ sign S → eb ≡ suc S.half → bit_or (x * 2 ^ eb % 2 ^ bits) mask ≡ word_at S x
  word_even_place one mask eb t oi mi ei =
      let b = sym (bit_test S x) ∙ ap (λ y. bit_and x y) (sym oi) ∙ t in
      ap₂ (λ y z. bit_or (x * 2 ^ y % z) mask) ei whole ∙ ap (λ y. bit_or (x * 2 ^ suc S.half % 2 ^ (S.sig + S.half + 2)) y) mi
      ∙ unshifted_word_even S x (zero_bit (x / 2 ^ S.sig % 2) (2 ^ S.sig) (pow_pos S.sig) b)
    where
      zero_bit : (r Q : ℕ) → 0 < Q → r * Q ≡ 0 → r ≡ 0
      zero_bit zero Q q e = refl
      zero_bit (suc r) Q q e = absurd (none e)
        where
          none : suc r * Q ≡ 0 → ⊥
          none e = omega arith

  -- an odd field: it is cleared, and the field's lowest bit stands below it
  pub word_odd_place : (one mask eb : ℕ) → (bit_and x one ≡ 0 → ⊥) → one ≡ 2 ^ S.sig → mask ≡ 2 ^ bits - 1 - sign S → eb ≡ suc S.half → bit_and (x * 2 ^ (eb - 1) % 2 ^ bits) mask ≡ word_at S x
  word_odd_place one mask eb t oi mi ei =
      let h : eb - 1 ≡ S.half = omega arith in
      let w = ap (λ y. 2 ^ y) bi ∙ sign_range S in
      let m : mask ≡ 2 ^ (S.sig + S.half + 1) - 1 = omega arith in
      ap₂ (λ y z. bit_and (x * 2 ^ y % z) mask) h whole ∙ ap (λ y. bit_and (x * 2 ^ S.half % 2 ^ (S.sig + S.half + 2)) y) m
      ∙ unshifted_word_odd S x (one_bit (x / 2 ^ S.sig % 2) (mod-lt (x / 2 ^ S.sig) (omega arith)) (λ z. t (ap (λ y. bit_and x y) oi ∙ bit_test S x ∙ ap (λ y. y * 2 ^ S.sig) z ∙ zero-mul (2 ^ S.sig))))
    where
      one_bit : (r : ℕ) → r < 2 → (r ≡ 0 → ⊥) → r ≡ 1
      one_bit zero l n = absurd (n refl)
      one_bit (suc r) l n = omega arith

  -- ---- the reduction with the exponent shifted out

  top_word_is : (one eb m : ℕ) → one ≡ 2 ^ S.sig → eb ≡ suc S.half → m ≡ bit_or x one * 2 ^ eb % 2 ^ bits → m ≡ (2 ^ S.sig + x % 2 ^ S.sig) * 2 ^ suc S.half
  top_word_is one eb m oi ei mi = mi ∙ ap₂ (λ y z. bit_or x y * 2 ^ z % 2 ^ bits) oi ei ∙ ap (λ y. bit_or x (2 ^ S.sig) * 2 ^ suc S.half % y) whole ∙ shifted_word S x

  pub word_even_shifted : (top one eb m : ℕ) → one ≡ 2 ^ S.sig → eb ≡ suc S.half → m ≡ bit_or x one * 2 ^ eb % 2 ^ bits → (top % 2 ≡ 1 → ⊥) → top % 2 ≡ x / 2 ^ S.sig % 2 → m ≡ word_at S x
  word_even_shifted top one eb m oi ei mi t p = rw (eq-eqb (x / 2 ^ S.sig % 2) 0 (zero_of (x / 2 ^ S.sig % 2) (mod-lt (x / 2 ^ S.sig) (omega arith)) (λ z. t (p ∙ z)))) (top_word_is one eb m oi ei mi)
    where
      zero_of : (r : ℕ) → r < 2 → (r ≡ 1 → ⊥) → r ≡ 0
      zero_of zero l n = refl
      zero_of (suc zero) l n = absurd (n refl)
      zero_of (suc (suc r)) l n = absurd (over l)
        where
          over : suc (suc r) < 2 → ⊥
          over l = omega arith

  pub word_odd_shifted : (top one eb m h : ℕ) → one ≡ 2 ^ S.sig → eb ≡ suc S.half → m ≡ bit_or x one * 2 ^ eb % 2 ^ bits → h ≡ m / 2 ^ 1 → top % 2 ≡ 1 → top % 2 ≡ x / 2 ^ S.sig % 2 → h ≡ word_at S x
  word_odd_shifted top one eb m h oi ei mi hi t p =
      let o : x / 2 ^ S.sig % 2 ≡ 1 = sym p ∙ t in
      rw (ne_eqb (x / 2 ^ S.sig % 2) 0 (λ z. clash z o)) (hi ∙ ap (λ y. y / 2) (top_word_is one eb m oi ei mi) ∙ shifted_half S x)
    where
      clash : x / 2 ^ S.sig % 2 ≡ 0 → x / 2 ^ S.sig % 2 ≡ 1 → ⊥
      clash a b = omega arith

-- ---- what is stored of a pattern

module _ (S : Shape) (ok : Sound S) (b x top : ℕ) (s : Stored S b x top) where
  pub stored_word : word_at S x ≡ word_of S (exp_of S b) (sig_of S b)
  stored_word = word_is S ok b x s.some s.finite s.pattern

  pub stored_parity : top % 2 ≡ x / 2 ^ S.sig % 2
  stored_parity = parity top (bias S) (exp_of S b) (field_of S b) (odd_bias S ok) s.exponent (tied S ok b s.some s.finite).parity ∙ ap (λ y. y % 2) (sym (field_is S ok b x s.some s.finite s.pattern))
    where
      parity : (top B t F : ℕ) → B % 2 ≡ 1 → (top + B) % 4294967296 ≡ t → F % 2 + t % 2 ≡ 1 → top % 2 ≡ F % 2
      parity top B t F o e p = by_half top (B / 2) t F (omega arith) e p
        where
          by_half : (top c t F : ℕ) → B ≡ 2 * c + 1 → (top + B) % 4294967296 ≡ t → F % 2 + t % 2 ≡ 1 → top % 2 ≡ F % 2
          by_half top c t F i e p = omega arith

  pub exp_place : (e : ℕ) → e ≡ (x / 2 ^ S.sig + bias S) / 2 % 2 ^ suc S.half * 2 ^ S.sig → e ≡ exp_of S b / 2 * 2 ^ S.sig
  exp_place e i = i ∙ ap (λ y. y * 2 ^ S.sig) (half_is S ok b x s.some s.finite s.pattern)

  pub exp_shifted : (bits e : ℕ) → bits ≡ width S → e ≡ (top + bias S) % 2 ^ 32 / 2 % 2 ^ bits * 2 ^ S.sig % 2 ^ bits → e ≡ exp_of S b / 2 * 2 ^ S.sig
  exp_shifted bits e bi i =
      let f = exp_fits S ok b s.finite in
      let q = pow_pos S.sig in
      i ∙ ap₂ (λ y z. y / 2 % 2 ^ z * 2 ^ S.sig % 2 ^ z) s.exponent bi
      ∙ ap (λ y. y * 2 ^ S.sig % 2 ^ width S) (mod-eq_of_lt (under (exp_of S b / 2) (2 ^ S.sig) (2 ^ width S) q f)) ∙ mod-eq_of_lt f
    where
      under : (y Q W : ℕ) → 0 < Q → y * Q < W → y < W
      under y Q W q h = omega (arith, mul-le-mul_left y q)

-- a normal pattern is stored as it is
pub stored_normal : (S : Shape) → Sound S → (ix top : ℕ) → 2 ^ S.sig ≤ ix → ix < infinity S → top ≡ ix / 2 ^ S.sig % 2 ^ 32 → Stored S ix ix top
stored_normal S ok ix top l h ti =
    let q = pow_pos S.sig in
    let b = bias_small S ok in
    let f = div_below ix (2 ^ S.sig) (2 * bias S + 1) q h in
    let t : top ≡ ix / 2 ^ S.sig = ti ∙ mod-eq_of_lt {n = ix / 2 ^ S.sig} {m = 2 ^ 32} (omega arith) in
    let d = div-add-mod' ix (2 ^ S.sig) in
    let r : 2 ^ S.sig + ix % 2 ^ S.sig - 2 ^ S.sig ≡ ix % 2 ^ S.sig = omega arith in
    record {
      some = omega arith;
      finite = h;
      pattern = rw (le-ltb ix (2 ^ S.sig) l) (sym (ap (λ y. ix / 2 ^ S.sig * 2 ^ S.sig + y) r ∙ d));
      exponent = rw (le-ltb ix (2 ^ S.sig) l) (ap (λ y. (y + bias S) % 2 ^ 32) t ∙ mod-eq_of_lt {n = ix / 2 ^ S.sig + bias S} {m = 2 ^ 32} (omega arith));
    }

-- a subnormal is shifted
module _ (S : Shape) (ok : Sound S) (ix bits : ℕ) (z : 0 < ix) (h : ix < 2 ^ S.sig) (bi : bits ≡ width S) where
  pub stored_subnormal : (n sub x top sb : ℕ) → n ≡ shift_of S ix → sb ≡ S.sig → sub ≡ n % 2 ^ bits * 2 ^ sb % 2 ^ bits → x ≡ (ix * 2 ^ n % 2 ^ bits + 2 ^ bits - sub) % 2 ^ bits → top ≡ (1 + (2 ^ 32 - n)) % 2 ^ 32
      → Stored S ix x top
  stored_subnormal n sub x top sb ni si ui xi ti =
      let W = 2 ^ width S in
      let g = shift_range S ix z h ok.deep in
      let g1 = g.1 in
      let d = ok.deep in
      let b = bias_small S ok in
      let q = pow_pos S.sig in
      let i = infinity_clear S in
      let inf : 2 ^ S.sig ≤ infinity S = one_field (2 ^ S.sig) (bias S) in
      let m : n % W ≡ shift_of S ix = ap (λ y. y % W) ni ∙ mod-eq_of_lt {n = shift_of S ix} {m = W} (few (shift_of S ix) g1) in
      let u : sub ≡ shift_of S ix * 2 ^ S.sig % W = ui ∙ ap₂ (λ y w. n % 2 ^ w * 2 ^ y % 2 ^ w) si bi ∙ ap (λ y. y * 2 ^ S.sig % W) m in
      let k = mod-lt (shift_of S ix * 2 ^ S.sig) (pow_pos (width S)) in
      let a : ix * 2 ^ n % 2 ^ bits + 2 ^ bits - sub ≡ ix * 2 ^ shift_of S ix % W + (W - shift_of S ix * 2 ^ S.sig % W) =
      ap₂ (λ y w. ix * 2 ^ y % 2 ^ w + 2 ^ w - sub) ni bi ∙ ap (λ y. ix * 2 ^ shift_of S ix % W + W - y) u ∙ apart (ix * 2 ^ shift_of S ix % W) W (shift_of S ix * 2 ^ S.sig % W) k in
      record {
        some = z;
        finite = omega arith;
        pattern = xi ∙ ap₂ (λ y w. y % 2 ^ w) a bi ∙ stored_is S ok ix z h;
        exponent = rw (lt-ltb ix (2 ^ S.sig) h) (ap (λ y. (y + bias S) % 2 ^ 32) (ti ∙ ap (λ y. (1 + (2 ^ 32 - y)) % 2 ^ 32) ni ∙ ap (λ y. y % 2 ^ 32) (sym (apart 1 (2 ^ 32) (shift_of S ix) (omega arith)))) ∙ top_sum (shift_of S ix) (bias S) (omega arith) (omega arith));
      }
    where
      one_field : (Q b : ℕ) → Q ≤ (2 * b + 1) * Q
      one_field Q b = omega arith

      few : (n : ℕ) → n ≤ S.sig → n < 2 ^ width S
      few n l =
          let d = ok.deep in
          let p = pow-le-pow_right {n = 2} (omega arith) {i = S.half} {j = width S} (omega arith) in
          omega arith

      apart : (x W y : ℕ) → y < W → x + W - y ≡ x + (W - y)
      apart x W y k = omega arith

-- ---- positive normal numbers, by one test

module _ (S : Shape) (ok : Sound S) (ix : ℕ) where
  abbrev Q : ℕ
  Q = 2 ^ S.sig

  q : 0 < 2 ^ S.sig
  q = pow_pos S.sig

  -- the tests of both bounds
  within : 2 ^ S.sig ≤ ix → ix < infinity S → not (leb (2 ^ S.sig) ix && ltb ix (infinity S)) ≡ false
  within l h = rw (le-leb (2 ^ S.sig) ix l, lt-ltb ix (infinity S) h)

  under : ix < 2 ^ S.sig → not (leb (2 ^ S.sig) ix && ltb ix (infinity S)) ≡ true
  under h = rw (lt-leb (2 ^ S.sig) ix h)

  over : infinity S ≤ ix → not (leb (2 ^ S.sig) ix && ltb ix (infinity S)) ≡ true
  over h =
      let i : 2 ^ S.sig ≤ ix = le_trans (one_field (2 ^ S.sig) (bias S)) h in
      rw (le-leb (2 ^ S.sig) ix i, le-ltb ix (infinity S) h)
    where
      one_field : (Q b : ℕ) → Q ≤ (2 * b + 1) * Q
      one_field Q b = omega arith

  by_range : (r : Bool) → (2 ^ S.sig ≤ ix → ix < infinity S → r ≡ false) → (ix < 2 ^ S.sig → r ≡ true) → (infinity S ≤ ix → r ≡ true) → r ≡ not (leb (2 ^ S.sig) ix && ltb ix (infinity S))
  by_range r a b c =
      ways ix (2 ^ S.sig) (r ≡ not (leb (2 ^ S.sig) ix && ltb ix (infinity S))) (λ h. b h ∙ sym (under h))
      (λ l. ways ix (infinity S) (r ≡ not (leb (2 ^ S.sig) ix && ltb ix (infinity S))) (λ h. a l h ∙ sym (within l h)) (λ h. c h ∙ sym (over h)))

  -- in place: the pattern less the lowest exponent bit, which wraps
  pub special_in_place : (bits lsb mask d m : ℕ) (t : Bool) → bits ≡ width S → ix < 2 ^ bits → lsb ≡ 2 ^ S.sig → mask ≡ infinity S → d ≡ (ix + 2 ^ bits - lsb) % 2 ^ bits → m ≡ (mask + 2 ^ bits - lsb) % 2 ^ bits → t ≡ ltb d m
      → not t ≡ not (leb (2 ^ S.sig) ix && ltb ix (infinity S))
  special_in_place bits lsb mask d m t bi u li mi di ei ti =
      let i = infinity_clear S in
      let w = ap (λ y. 2 ^ y) bi ∙ sign_range S in
      let o : 2 ^ S.sig ≤ infinity S = one_field (2 ^ S.sig) (bias S) in
      let m' : m ≡ infinity S - 2 ^ S.sig = ei ∙ wrapped (2 ^ bits) mask lsb (omega arith) (omega arith) ∙ (let e : mask - lsb ≡ infinity S - 2 ^ S.sig = omega arith in e) in
      by_range (not t)
      (λ l h. let d' : d ≡ ix - 2 ^ S.sig = di ∙ wrapped (2 ^ bits) ix lsb (omega arith) u ∙ (let e : ix - lsb ≡ ix - 2 ^ S.sig = omega arith in e) in ap not (ti ∙ lt-ltb d m (omega arith)))
      (λ h. let d' : d ≡ ix + 2 ^ bits - 2 ^ S.sig = di ∙ below_wrapped (2 ^ bits) ix lsb (omega arith) (omega arith) ∙ (let e : ix + 2 ^ bits - lsb ≡ ix + 2 ^ bits - 2 ^ S.sig = omega arith in e) in ap not (ti ∙ le-ltb d m (omega arith)))
      (λ h. let d' : d ≡ ix - 2 ^ S.sig = di ∙ wrapped (2 ^ bits) ix lsb (omega arith) u ∙ (let e : ix - lsb ≡ ix - 2 ^ S.sig = omega arith in e) in ap not (ti ∙ le-ltb d m (omega arith)))
    where
      one_field : (Q b : ℕ) → Q ≤ (2 * b + 1) * Q
      one_field Q b = omega arith

      wrapped : (W x y : ℕ) → y ≤ x → x < W → (x + W - y) % W ≡ x - y
      wrapped W x y l u =
          let i : x + W - y ≡ (x - y) + W = omega arith in
          ap (λ z. z % W) i ∙ add-mod_right (x - y) W ∙ mod-eq_of_lt {n = x - y} {m = W} (omega arith)

      below_wrapped : (W x y : ℕ) → x < y → y ≤ W → (x + W - y) % W ≡ x + W - y
      below_wrapped W x y l u = mod-eq_of_lt {n = x + W - y} {m = W} (omega arith)

  -- shifted: the exponent less 1, in words of 32 bits
  pub special_shifted : (bits sb bb top d : ℕ) → bits ≡ width S → ix < 2 ^ bits → sb ≡ S.sig → bb ≡ bias S → top ≡ ix / 2 ^ sb % 2 ^ 32 → d ≡ (top + 4294967295) % 2 ^ 32
      → leb (2 * bb + 1 - 1) d ≡ not (leb (2 ^ S.sig) ix && ltb ix (infinity S))
  special_shifted bits sb bb top d bi u si ci ti di =
      let b = bias_small S ok in
      let f : ix / 2 ^ S.sig < 4 * 2 ^ S.half = div_below ix (2 ^ S.sig) (4 * 2 ^ S.half) q (subst (λ y. ix < y) (ap (λ y. 2 ^ y) bi ∙ whole-range S ∙ ap (λ y. 4 * y) (pow-add 2 S.sig S.half) ∙ turn (2 ^ S.sig) (2 ^ S.half)) u) in
      let p = pow_pos S.half in
      let t : top ≡ ix / 2 ^ S.sig = ti ∙ ap (λ y. ix / 2 ^ y % 2 ^ 32) si ∙ mod-eq_of_lt {n = ix / 2 ^ S.sig} {m = 2 ^ 32} (omega arith) in
      by_range (leb (2 * bb + 1 - 1) d)
      (λ l h. let g = le-div 1 ix (2 ^ S.sig) q (subst (λ y. y ≤ ix) (sym (one-mul (2 ^ S.sig))) l) in
      let k = div_below ix (2 ^ S.sig) (2 * bias S + 1) q h in
      lt-leb (2 * bb + 1 - 1) d (omega arith))
      (λ h. let k : ix / 2 ^ S.sig ≡ 0 = div-eq_of_lt h in le-leb (2 * bb + 1 - 1) d (omega arith))
      (λ h. let k = le-div (2 * bias S + 1) ix (2 ^ S.sig) q h in le-leb (2 * bb + 1 - 1) d (omega arith))
    where
      turn : (Q E : ℕ) → 4 * (Q * E) ≡ 4 * E * Q
      turn Q E = omega arith

-- what the test says of a number that it passes
pub normal_lower : (a b : Bool) → not (a && b) ≡ false → a ≡ true
normal_lower true b e = refl
normal_lower false b e = absurd (true≢false e)

pub normal_upper : (a b : Bool) → not (a && b) ≡ false → b ≡ true
normal_upper true true e = refl
normal_upper true false e = absurd (true≢false e)
normal_upper false b e = absurd (true≢false e)
