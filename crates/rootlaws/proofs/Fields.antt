-- The stored pattern, over the layout: what the port's shifts and masks make of it.
use Rattle.std.proofs.Common.{◌≡◌, ℕ, zero, suc, ◌+◌, ◌-◌, ◌*◌, ◌/◌, ◌%◌, ◌^◌, ◌<◌, ◌≤◌, cond, eqb, sym, refl, ap, ◌∙◌, subst, ap₂, ⊎_elim, mul-le-mul_right, mod-lt, mod-eq_of_lt, div-add-mod', arith}
use native.Mathlib.Nat.{mod_self, pow-succ'}
use lib.Bits.{bit_and, bit_or, and_high}
use Rattle.std.proofs.lemmas.Nat.{pow_pos, pow-add, div-mul-add, mod-mul-add, div_below}
use Rattle.std.proofs.lemmas.Bool.{lt-ltb, le-ltb, eq-eqb, ne_eqb, cases_eq}
use Rattle.rootlaws.specs.Table.{index}
use Rattle.width.specs.Shape.{Shape, Sound, bias, infinity}
use Rattle.rootlaws.specs.Split.{shift_of, sig_of, exp_of, word_of, field_of, frac_of, word_at}
use Rattle.rootlaws.proofs.Square.{ways}
use Rattle.rootlaws.proofs.Start.{index_odd, index_even, index_bits}
use Rattle.rootlaws.proofs.Split.{odd_bias, sig_range, shift_range}
use Rattle.rootlaws.proofs.Bits.{stored, exponent_wraps, shifted, unshifted_even, unshifted_odd}

-- a field and an exponent with the bias that go together
pub record Tied (S : Shape) (F t : ℕ) : Type 0 where
  pub parity : F % 2 + t % 2 ≡ 1
  pub half : (F + bias S) / 2 % 2 ^ suc S.half ≡ t / 2

module _ (S : Shape) (ok : Sound S) where
  centred : suc (bias S) ≡ 2 ^ S.half
  centred = let p = pow_pos S.half in omega arith

  twice : 2 ^ suc S.half ≡ 2 * suc (bias S)
  twice = pow-succ' 2 S.half ∙ ap (λ y. 2 * y) (sym centred)

  fields : 2 ^ (S.half + 2) ≡ 4 * suc (bias S)
  fields = pow-add 2 S.half 2 ∙ ap (λ y. y * 4) (sym centred) ∙ turn (suc (bias S))
    where
      turn : (x : ℕ) → x * 4 ≡ 4 * x
      turn x = omega arith

  tied_large : (F : ℕ) → F < 2 * bias S + 1 → Tied S F (F + bias S)
  tied_large F h =
      let b = odd_bias S ok in
      record { parity = odd F (bias S) b; half = ap (λ y. (F + bias S) / 2 % y) twice ∙ mod-eq_of_lt {n = (F + bias S) / 2} {m = 2 * suc (bias S)} (omega arith) }
    where
      odd : (F b : ℕ) → b % 2 ≡ 1 → F % 2 + (F + b) % 2 ≡ 1
      odd F b e = omega arith

  -- n = 1: the field is 0
  tied_one : Tied S ((1 + 2 ^ (S.half + 2) - 1) % 2 ^ (S.half + 2)) (1 + bias S - 1)
  tied_one =
      let a : (1 + 2 ^ (S.half + 2) - 1) % 2 ^ (S.half + 2) ≡ 0 = ap (λ y. y % 2 ^ (S.half + 2)) (back (2 ^ (S.half + 2))) ∙ mod_self (2 ^ (S.half + 2)) in
      let c = tied_large 0 (omega arith) in
      let d : 0 + bias S ≡ 1 + bias S - 1 = omega arith in
      subst (λ y. Tied S y (1 + bias S - 1)) (sym a) (subst (λ y. Tied S 0 y) d c)
    where
      back : (x : ℕ) → 1 + x - 1 ≡ x
      back x = omega arith

  tied_more : (F t : ℕ) → F + bias S ≡ t + 2 * 2 ^ suc S.half → t < bias S → Tied S F t
  tied_more F t e h =
      let b = odd_bias S ok in
      record {
        parity = odd F t (2 ^ suc S.half) (bias S) e b;
        half = ap (λ y. y / 2 % 2 ^ suc S.half) e ∙ exponent_wraps t (2 ^ suc S.half) (rw twice (omega arith));
      }
    where
      odd : (F t B b : ℕ) → F + b ≡ t + 2 * B → b % 2 ≡ 1 → F % 2 + t % 2 ≡ 1
      odd F t B b e o = by_half F t B (b / 2) (omega arith)
        where
          by_half : (F t B c : ℕ) → F + (2 * c + 1) ≡ t + 2 * B → F % 2 + t % 2 ≡ 1
          by_half F t B c e = omega arith

  pub tied : (ix : ℕ) → 0 < ix → ix < infinity S → Tied S (field_of S ix) (exp_of S ix)
  tied ix z fin =
      ways ix (2 ^ S.sig) (Tied S (field_of S ix) (exp_of S ix))
      (λ h. let r = shift_range S ix z h ok.deep in rw (lt-ltb ix (2 ^ S.sig) h) (small (shift_of S ix) r.0 r.1))
      (λ h. rw (le-ltb ix (2 ^ S.sig) h) (tied_large (ix / 2 ^ S.sig) (div_below ix (2 ^ S.sig) (2 * bias S + 1) (pow_pos S.sig) fin)))
    where
      small : (n : ℕ) → 1 ≤ n → n ≤ S.sig → Tied S ((1 + 2 ^ (S.half + 2) - n) % 2 ^ (S.half + 2)) (1 + bias S - n)
      small n a b =
          let d = ok.deep in
          let f = fields in
          let t = twice in
          ways 1 n (Tied S ((1 + 2 ^ (S.half + 2) - n) % 2 ^ (S.half + 2)) (1 + bias S - n))
          (λ g. let i : (1 + 2 ^ (S.half + 2) - n) % 2 ^ (S.half + 2) ≡ 1 + 2 ^ (S.half + 2) - n = mod-eq_of_lt {n = 1 + 2 ^ (S.half + 2) - n} {m = 2 ^ (S.half + 2)} (omega arith) in
          tied_more ((1 + 2 ^ (S.half + 2) - n) % 2 ^ (S.half + 2)) (1 + bias S - n) (omega arith) (omega arith))
          (λ g. let e : n ≡ 1 = omega arith in subst (λ y. Tied S ((1 + 2 ^ (S.half + 2) - y) % 2 ^ (S.half + 2)) (1 + bias S - y)) (sym e) tied_one)

  -- a subnormal's word, as the code makes it
  pub stored_is : (ix : ℕ) → 0 < ix → ix < 2 ^ S.sig
      → (ix * 2 ^ shift_of S ix % 2 ^ (S.sig + S.half + 2) + (2 ^ (S.sig + S.half + 2) - shift_of S ix * 2 ^ S.sig % 2 ^ (S.sig + S.half + 2))) % 2 ^ (S.sig + S.half + 2)
      ≡ field_of S ix * 2 ^ S.sig + frac_of S ix
  stored_is ix z h =
      let r = sig_range S ix z ok.deep in
      let n = shift_range S ix z h ok.deep in
      let t = lt-ltb ix (2 ^ S.sig) h in
      let d = ok.deep in
      let f = fields in
      rw t (go (shift_of S ix) (ix * 2 ^ shift_of S ix) (2 ^ S.sig) (2 ^ (S.half + 2)) (2 ^ (S.sig + S.half + 2)) word_is (pow_pos S.sig) (rw t at r.0) (rw t at r.1) n.0 (room (shift_of S ix) n.1) (omega arith))
    where
      word_is : 2 ^ (S.sig + S.half + 2) ≡ 2 ^ (S.half + 2) * 2 ^ S.sig
      word_is = ap (λ y. 2 ^ y) (order S.sig S.half) ∙ pow-add 2 (S.half + 2) S.sig
        where
          order : (a b : ℕ) → a + b + 2 ≡ b + 2 + a
          order a b = omega arith

      room : (n : ℕ) → n ≤ S.sig → n < 2 ^ (S.half + 2)
      room n g = let d = ok.deep in let f = fields in omega arith

      go : (n y Q K W : ℕ) → W ≡ K * Q → 0 < Q → Q ≤ y → y < 2 * Q → 1 ≤ n → n < K → 4 ≤ K → (y % W + (W - n * Q % W)) % W ≡ (1 + K - n) % K * Q + (y - Q)
      go n y Q K W e q l u a b k =
          let i : y % W ≡ y = mod-eq_of_lt {n = y} {m = W} (omega (arith, mul-le-mul_right Q k)) in
          let j : n * Q % W ≡ n * Q = mod-eq_of_lt {n = n * Q} {m = W} (omega (arith, mul-le-mul_right Q b)) in
          let c : y + (W - n * Q) ≡ Q + (y - Q) + K * Q - n * Q = omega (arith, mul-le-mul_right Q b) in
          ap₂ (λ u v. (u + (W - v)) % W) i j ∙ ap₂ (λ u v. u % v) c e ∙ stored Q K (y - Q) n q (omega arith) a (omega arith)

  -- the field and the significand of the stored word
  module _ (ix x : ℕ) (z : 0 < ix) (fin : ix < infinity S) (e : x ≡ field_of S ix * 2 ^ S.sig + frac_of S ix) where
    frac_small : frac_of S ix < 2 ^ S.sig
    frac_small = let r = sig_range S ix z ok.deep in less (sig_of S ix) (2 ^ S.sig) r.0 r.1
      where
        less : (s Q : ℕ) → Q ≤ s → s < 2 * Q → s - Q < Q
        less s Q l u = omega arith

    pub field_is : x / 2 ^ S.sig ≡ field_of S ix
    field_is = ap (λ y. y / 2 ^ S.sig) e ∙ div-mul-add (field_of S ix) (2 ^ S.sig) (frac_of S ix) frac_small

    pub sig_is : 2 ^ S.sig + x % 2 ^ S.sig ≡ sig_of S ix
    sig_is = let r = sig_range S ix z ok.deep in ap (λ y. 2 ^ S.sig + y) (ap (λ y. y % 2 ^ S.sig) e ∙ mod-mul-add (field_of S ix) (2 ^ S.sig) (frac_of S ix) frac_small) ∙ join (sig_of S ix) (2 ^ S.sig) r.0
      where
        join : (s Q : ℕ) → Q ≤ s → Q + (s - Q) ≡ s
        join s Q l = omega arith

    pub word_is : word_at S x ≡ word_of S (exp_of S ix) (sig_of S ix)
    word_is = go (x / 2 ^ S.sig) (2 ^ S.sig + x % 2 ^ S.sig) field_is sig_is
      where
        both : (F t s : ℕ) → F % 2 + t % 2 ≡ 1 → cond (eqb (F % 2) 0) (s * 2 ^ suc S.half) (s * 2 ^ S.half) ≡ word_of S t s
        both F t s p =
            ways (F % 2) 1 (cond (eqb (F % 2) 0) (s * 2 ^ suc S.half) (s * 2 ^ S.half) ≡ word_of S t s)
            (λ h. rw (eq-eqb (F % 2) 0 (omega arith), ne_eqb (t % 2) 0 (λ i. omega arith)))
            (λ h. rw (ne_eqb (F % 2) 0 (λ i. omega arith), eq-eqb (t % 2) 0 (omega arith)))

        go : (F s : ℕ) → F ≡ field_of S ix → s ≡ sig_of S ix → cond (eqb (F % 2) 0) (s * 2 ^ suc S.half) (s * 2 ^ S.half) ≡ word_of S (exp_of S ix) (sig_of S ix)
        go F s i j = both F (exp_of S ix) s (ap (λ y. y % 2 + exp_of S ix % 2) i ∙ (tied ix z fin).parity) ∙ ap (λ y. word_of S (exp_of S ix) y) j

    pub half_is : (x / 2 ^ S.sig + bias S) / 2 % 2 ^ suc S.half ≡ exp_of S ix / 2
    half_is = ap (λ y. (y + bias S) / 2 % 2 ^ suc S.half) field_is ∙ (tied ix z fin).half

-- of any stored word x: the word, in the code's two forms
module _ (S : Shape) (x : ℕ) where
  -- the field's parity, as the code tests it
  pub bit_test : bit_and x (2 ^ S.sig) ≡ x / 2 ^ S.sig % 2 * 2 ^ S.sig
  bit_test = ap (λ y. bit_and x y) (sym (ap (λ y. y - 2 ^ S.sig) (pow-add 2 1 S.sig) ∙ gap (2 ^ S.sig))) ∙ and_high x 1 S.sig
    where
      gap : (y : ℕ) → 2 * y - y ≡ y
      gap y = omega arith

  split_x : x / 2 ^ S.sig * 2 ^ S.sig + x % 2 ^ S.sig ≡ x
  split_x = div-add-mod' x (2 ^ S.sig)

  frac_lt : x % 2 ^ S.sig < 2 ^ S.sig
  frac_lt = mod-lt x (pow_pos S.sig)

  pub shifted_word : (bit_or x (2 ^ S.sig) * 2 ^ suc S.half % 2 ^ (S.sig + S.half + 2)) ≡ (2 ^ S.sig + x % 2 ^ S.sig) * 2 ^ suc S.half
  shifted_word = ap (λ y. bit_or y (2 ^ S.sig) * 2 ^ suc S.half % 2 ^ (S.sig + S.half + 2)) (sym split_x) ∙ shifted S.sig S.half (x % 2 ^ S.sig) frac_lt (x / 2 ^ S.sig)

  -- and one less where the field is odd
  pub shifted_half : (2 ^ S.sig + x % 2 ^ S.sig) * 2 ^ suc S.half / 2 ≡ (2 ^ S.sig + x % 2 ^ S.sig) * 2 ^ S.half
  shifted_half = ap (λ y. (2 ^ S.sig + x % 2 ^ S.sig) * y / 2) (pow-succ' 2 S.half) ∙ halved (2 ^ S.sig + x % 2 ^ S.sig) (2 ^ S.half)
    where
      halved : (a b : ℕ) → a * (2 * b) / 2 ≡ a * b
      halved a b = go (a * (2 * b)) (a * b) (omega arith)
        where
          go : (y z : ℕ) → y ≡ 2 * z → y / 2 ≡ z
          go y z e = omega arith

  pub unshifted_word_odd : x / 2 ^ S.sig % 2 ≡ 1 → bit_and (x * 2 ^ S.half % 2 ^ (S.sig + S.half + 2)) (2 ^ (S.sig + S.half + 1) - 1) ≡ word_at S x
  unshifted_word_odd o =
      let g = x / 2 ^ S.sig / 2 in
      let i : 2 * g + 1 ≡ x / 2 ^ S.sig = omega arith in
      let d = ap (λ y. y * 2 ^ S.sig + x % 2 ^ S.sig) i ∙ split_x in
      rw (ne_eqb (x / 2 ^ S.sig % 2) 0 (λ w. omega arith))
      (ap (λ y. bit_and (y * 2 ^ S.half % 2 ^ (S.sig + S.half + 2)) (2 ^ (S.sig + S.half + 1) - 1)) (sym d) ∙ unshifted_odd S.sig S.half (x % 2 ^ S.sig) frac_lt g)

  pub unshifted_word_even : x / 2 ^ S.sig % 2 ≡ 0 → bit_or (x * 2 ^ suc S.half % 2 ^ (S.sig + S.half + 2)) (2 ^ (S.sig + S.half + 1)) ≡ word_at S x
  unshifted_word_even o =
      let g = x / 2 ^ S.sig / 2 in
      let i : 2 * g ≡ x / 2 ^ S.sig = omega arith in
      let d = ap (λ y. y * 2 ^ S.sig + x % 2 ^ S.sig) i ∙ split_x in
      rw (eq-eqb (x / 2 ^ S.sig % 2) 0 o)
      (ap (λ y. bit_or (y * 2 ^ suc S.half % 2 ^ (S.sig + S.half + 2)) (2 ^ (S.sig + S.half + 1))) (sym d) ∙ unshifted_even S.sig S.half (x % 2 ^ S.sig) frac_lt g)

  -- the index bits are the index of the word: p = r + 6, the word's range is 65536 c
  pub word_index : (r c : ℕ) → 64 * 2 ^ r ≡ 2 ^ S.sig → 256 * c ≡ 2 ^ r * 2 ^ S.half → x / 2 ^ r % 128 ≡ index c (word_at S x)
  word_index r c i j =
      let f = x % 2 ^ S.sig in
      let u : f < 64 * 2 ^ r = subst (λ y. f < y) (sym i) frac_lt in
      let d : x / 2 ^ S.sig * (64 * 2 ^ r) + f ≡ x = ap (λ y. x / 2 ^ S.sig * y + f) i ∙ split_x in
      let b = ap (λ y. y / 2 ^ r % 128) (sym d) ∙ index_bits (x / 2 ^ S.sig) (2 ^ r) f (pow_pos r) u in
      ⊎_elim (λ (e : x / 2 ^ S.sig % 2 ≡ 0).
      let k = index_even c (2 ^ r) (2 ^ S.half) f (pow_pos r) (pow_pos S.half) j u in
      let l : 64 * (x / 2 ^ S.sig % 2) + f / 2 ^ r ≡ f / 2 ^ r = ap (λ y. 64 * y + f / 2 ^ r) e ∙ plain (f / 2 ^ r) in
      let w : (64 * 2 ^ r + f) * (2 * 2 ^ S.half) ≡ word_at S x = rw (eq-eqb (x / 2 ^ S.sig % 2) 0 e) (ap₂ (λ y v. (y + f) * v) i (sym (pow-succ' 2 S.half))) in
      b ∙ l ∙ sym k ∙ ap (λ y. index c y) w)
      (λ (e : x / 2 ^ S.sig % 2 ≡ 0 → ⊥).
      let k = index_odd c (2 ^ r) (2 ^ S.half) f (pow_pos r) (pow_pos S.half) j u in
      let o = one (x / 2 ^ S.sig % 2) (mod-lt (x / 2 ^ S.sig) (omega arith)) e in
      let l : 64 * (x / 2 ^ S.sig % 2) + f / 2 ^ r ≡ 64 + f / 2 ^ r = ap (λ y. 64 * y + f / 2 ^ r) o in
      let w : (64 * 2 ^ r + f) * 2 ^ S.half ≡ word_at S x = rw (ne_eqb (x / 2 ^ S.sig % 2) 0 e) (ap (λ y. (y + f) * 2 ^ S.half) i) in
      b ∙ l ∙ sym k ∙ ap (λ y. index c y) w) (cases_eq (x / 2 ^ S.sig % 2) 0)
    where
      plain : (y : ℕ) → 64 * 0 + y ≡ y
      plain y = omega arith

      one : (r : ℕ) → r < 2 → (r ≡ 0 → ⊥) → r ≡ 1
      one zero l n = absurd (n refl)
      one (suc r) l n = omega arith
