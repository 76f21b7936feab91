-- The root of a pattern, by the pattern's class.
use Rattle.std.proofs.Common.{◌≡◌, ℕ, zero, suc, ◌+◌, ◌-◌, ◌*◌, ◌/◌, ◌%◌, ◌^◌, ◌<◌, ◌≤◌, Bool, true, false, cond, ◌&&◌, ltb, sym, refl, ap, ◌∙◌, subst, ap₂, mul-le-mul_right, mod-eq_of_lt, mul-le-mul_left, arith}
use native.Mathlib.Nat.{zero-mod, pow-succ'}
use lib.Bits.{bit_and, bit_or}
use Rattle.std.proofs.lemmas.Nat.{pow_pos, pow-add}
use Rattle.std.proofs.lemmas.Bool.{lt-ltb, le-ltb}
use Rattle.width.specs.Shape.{Shape, Sound, width, bias, sign, infinity, quiet}
use Rattle.rootlaws.specs.Roots.{Between, RootBits, target}
use Rattle.rootlaws.specs.Split.{exp_of, sig_of, word_of, joined, lift}
use Rattle.rootlaws.specs.Whole.{Nearest}
use Rattle.rootlaws.proofs.Join.{together}
use Rattle.rootlaws.proofs.Sizes.{sign_range}
use Rattle.rootlaws.proofs.Split.{sig_range, word_digits, exp_small, root_between, root_finite}
use Rattle.root.specs.Status.{status_of}
use Rattle.root.specs.declared.env.Status.TheVariants.{Ok, Invalid}

-- the infinity's pattern has a clear sign
pub infinity_clear : (S : Shape) → infinity S < sign S
infinity_clear S =
    let a = ap (λ y. 2 ^ y) (order S.sig S.half) ∙ pow-add 2 S.sig (suc S.half) ∙ ap (λ y. 2 ^ S.sig * y) (pow-succ' 2 S.half) in
    below (2 ^ S.sig) (2 ^ S.half) (sign S) (pow_pos S.sig) (pow_pos S.half) a
  where
    order : (a b : ℕ) → a + b + 1 ≡ a + suc b
    order a b = omega arith

    minus : (Q E : ℕ) → 0 < E → (2 * (E - 1) + 1) * Q + Q ≡ Q * (2 * E)
    minus Q zero p = absurd (none p)
      where
        none : 0 < 0 → ⊥
        none p = omega arith
    minus Q (suc E) p = let i : suc E - 1 ≡ E = omega arith in ap (λ y. (2 * y + 1) * Q + Q) i ∙ (let j : (2 * E + 1) * Q + Q ≡ Q * (2 * suc E) = omega arith in j)

    below : (Q E s : ℕ) → 0 < Q → 0 < E → s ≡ Q * (2 * E) → (2 * (E - 1) + 1) * Q < s
    below Q E s q p e = let m = minus Q E p in omega arith

module _ (S : Shape) (b : ℕ) where
  -- the status of each class
  pub status_ok : b ≤ infinity S → status_of S b ≡ Ok
  status_ok h = rw (le-ltb (infinity S) b h) (no_and (ltb 0 (b % sign S)))
    where
      no_and : (t : Bool) → cond (t && false) Invalid Ok ≡ Ok
      no_and true = refl
      no_and false = refl

  pub status_zero : b % sign S ≡ 0 → status_of S b ≡ Ok
  status_zero z = rw z

  pub status_invalid : (b % sign S ≡ 0 → ⊥) → infinity S < b → status_of S b ≡ Invalid
  status_invalid n g = rw (lt-ltb 0 (b % sign S) (some (b % sign S) refl), lt-ltb (infinity S) b g)
    where
      some : (k : ℕ) → k ≡ b % sign S → 0 < k
      some zero e = absurd (n (sym e))
      some (suc k) e = omega arith

  clear : b < infinity S → b % sign S ≡ b
  clear h = let i = infinity_clear S in mod-eq_of_lt {n = b} {m = sign S} (omega arith)

  pub zero_root : b % sign S ≡ 0 → RootBits S b b
  zero_root z = record {
    of_zero = λ _. refl;
    of_infinity = λ _. refl;
    of_none = λ p _. absurd (no p);
    finite = λ p l. absurd (none p l);
    between = λ p l. absurd (none p l);
  }
    where
      no : 0 < b % sign S → ⊥
      no p = omega arith

      none : 0 < b → b < infinity S → ⊥
      none p l = let c = clear l in omega arith

  pub infinity_root : b ≡ infinity S → RootBits S b b
  infinity_root e = record {
    of_zero = λ _. refl;
    of_infinity = λ _. refl;
    of_none = λ _ l. absurd (no l);
    finite = λ _ l. absurd (under l);
    between = λ _ l. absurd (under l);
  }
    where
      no : infinity S < b → ⊥
      no l = omega arith

      under : b < infinity S → ⊥
      under l = omega arith

  pub none_root : (b % sign S ≡ 0 → ⊥) → infinity S < b → (r : ℕ) → r ≡ quiet S → RootBits S b r
  none_root n g r q = record {
    of_zero = λ z. absurd (n z);
    of_infinity = λ e. absurd (no e);
    of_none = λ _ _. q;
    finite = λ _ l. absurd (under l);
    between = λ _ l. absurd (under l);
  }
    where
      no : b ≡ infinity S → ⊥
      no e = omega arith

      under : b < infinity S → ⊥
      under l = omega arith

  pub some_bit : (b % sign S ≡ 0 → ⊥) → 0 < b
  some_bit n = go b refl
    where
      go : (k : ℕ) → k ≡ b → 0 < k
      go zero e = absurd (n (ap (λ y. y % sign S) (sym e) ∙ zero-mod (sign S)))
      go (suc k) e = omega arith

  pub number_root : 0 < b → b < infinity S → (r : ℕ) → suc r < infinity S → Between (2 ^ S.sig) (target S b) r → RootBits S b r
  number_root p l r f t = record {
    of_zero = λ z. absurd (no z);
    of_infinity = λ e. absurd (same e);
    of_none = λ _ g. absurd (over g);
    finite = λ _ _. f;
    between = λ _ _. t;
  }
    where
      no : b % sign S ≡ 0 → ⊥
      no z = let c = clear l in omega arith

      same : b ≡ infinity S → ⊥
      same e = omega arith

      over : infinity S < b → ⊥
      over g = omega arith

-- the exponent of the root fits its place
pub exp_fits : (S : Shape) → Sound S → (ix : ℕ) → ix < infinity S → exp_of S ix / 2 * 2 ^ S.sig < 2 ^ width S
exp_fits S ok ix l =
    let e = exp_small S ok ix l in
    let i = infinity_clear S in
    let w = sign_range S in
    let b : exp_of S ix / 2 ≤ 2 * bias S + 1 = omega arith in
    let t = mul-le-mul_right (2 ^ S.sig) b in
    omega arith

-- the fields put together
module _ (S : Shape) (ok : Sound S) (ix : ℕ) (z : 0 < ix) (l : ix < infinity S) (bits : ℕ) (bi : bits ≡ width S) (m : ℕ)
    (near : Nearest (word_of S (exp_of S ix) (sig_of S ix) * 2 ^ lift S) m) where
  -- the stored bits of the root, beside its exponent
  pub joined_at : (mask e : ℕ) → mask ≡ 2 ^ S.sig - 1 → e ≡ exp_of S ix / 2 * 2 ^ S.sig → bit_or (bit_and m mask) e ≡ joined S (exp_of S ix / 2) m
  joined_at mask e mi ei =
      let r = sig_range S ix z ok.deep in
      let d = word_digits S (sig_of S ix) r.0 r.1 ok m (exp_of S ix) near in
      ap₂ (λ x y. bit_or (bit_and m x) y) mi ei ∙ together S.sig (exp_of S ix / 2) m d.0 d.1

  pub joined_is : (mask sb : ℕ) → mask ≡ 2 ^ S.sig - 1 → sb ≡ S.sig → bit_or (bit_and m mask) (exp_of S ix / 2 % 2 ^ bits * 2 ^ sb % 2 ^ bits) ≡ joined S (exp_of S ix / 2) m
  joined_is mask sb mi si =
      let e = exp_fits S ok ix l in
      let a : exp_of S ix / 2 % 2 ^ bits ≡ exp_of S ix / 2 = ap (λ x. exp_of S ix / 2 % 2 ^ x) bi ∙ mod-eq_of_lt (small (exp_of S ix / 2) (2 ^ S.sig) (pow_pos S.sig) e) in
      joined_at mask _ mi (ap₂ (λ x y. x * 2 ^ y % 2 ^ bits) a si ∙ ap (λ x. exp_of S ix / 2 * 2 ^ S.sig % 2 ^ x) bi ∙ mod-eq_of_lt e)
    where
      small : (e Q : ℕ) → 0 < Q → e * Q < 2 ^ width S → e < 2 ^ width S
      small e Q q h = omega (arith, mul-le-mul_left e q)

  pub word_root : (r : ℕ) → r ≡ joined S (exp_of S ix / 2) m → RootBits S ix r
  word_root r e =
      subst (λ y. RootBits S ix y) (sym e)
      (number_root S ix z l (joined S (exp_of S ix / 2) m) (root_finite S ok ix m z near l) (root_between S ok ix m z near))
