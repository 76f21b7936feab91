-- The three layouts: their numbers, computed, and the whole chain from the table to the rounded root.
use Rattle.std.proofs.Common.{◌≡◌, ℕ, zero, suc, ◌+◌, ◌-◌, ◌*◌, ◌/◌, ◌%◌, ◌^◌, ◌<◌, ◌≤◌, Bool, true, false, T, ltb, sym, refl, subst, ⊎_elim, le_of_suc-le-suc, not-suc-le-zero, mul_comm, eq-or-lt_of_le, arith, lit<, lit≤, ltb→lt}
use native.Mathlib.Omega.{by_contra}
use Rattle.rootlaws.specs.Words.{Rec, High, Fits, Final, Kept}
use Rattle.rootlaws.specs.Whole.{Nearest}
use Rattle.rootlaws.specs.Table.{guess}
use Rattle.width.specs.Product.{exact, halves}
use Rattle.rootlaws.specs.Gold.{raw, turn, begin}
use Rattle.rootlaws.specs.Layouts.{kept16, kept32, half64, kept64, answer, Root16, Root32, Root64}
use Rattle.rootlaws.proofs.Start.{exact_high, halves_high_word, start, widen, both, both_left, both_right}
use Rattle.rootlaws.proofs.Chain.{two, three, reciprocal, past_one, past_two}
use Rattle.rootlaws.proofs.Last.{rounded, kept_below}

fits16 : Fits (2 ^ 14) 1 128 1 0 3 4 2
fits16 = record { wide = lit≤ tt; small = lit≤ tt; some = lit≤ tt; up = lit≤ tt; down = lit≤ tt; below = lit≤ tt; above = lit≤ tt; drift_up = lit≤ tt; drift_down = lit≤ tt; narrow = lit≤ tt }

final16 : Final (2 ^ 14) 8 3 4 2
final16 = record { some = lit< tt; up = lit≤ tt; down = lit≤ tt; high = lit< tt; low = lit< tt; room = lit≤ tt }

fits32 : Fits (2 ^ 30) 1 (2 ^ 23) 1 0 (2 ^ 16) 4 2
fits32 = record { wide = lit≤ tt; small = lit≤ tt; some = lit≤ tt; up = lit≤ tt; down = lit≤ tt; below = lit≤ tt; above = lit≤ tt; drift_up = lit≤ tt; drift_down = lit≤ tt; narrow = lit≤ tt }

fits32_more : Fits (2 ^ 30) 1 (2 ^ 16) 4 2 8 7 5
fits32_more = record { wide = lit≤ tt; small = lit≤ tt; some = lit≤ tt; up = lit≤ tt; down = lit≤ tt; below = lit≤ tt; above = lit≤ tt; drift_up = lit≤ tt; drift_down = lit≤ tt; narrow = lit≤ tt }

final32 : Final (2 ^ 30) 64 8 7 5
final32 = record { some = lit< tt; up = lit≤ tt; down = lit≤ tt; high = lit< tt; low = lit< tt; room = lit≤ tt }

fits64 : Fits (2 ^ 62) 3 (9 * 2 ^ 32) 3 0 256 10 6
fits64 = record { wide = lit≤ tt; small = lit≤ tt; some = lit≤ tt; up = lit≤ tt; down = lit≤ tt; below = lit≤ tt; above = lit≤ tt; drift_up = lit≤ tt; drift_down = lit≤ tt; narrow = lit≤ tt }

final64 : Final (2 ^ 62) 512 256 10 6
final64 = record { some = lit< tt; up = lit≤ tt; down = lit≤ tt; high = lit< tt; low = lit< tt; room = lit≤ tt }

-- the kept digits, rounded; H = 2^(w-1), Q = 2^p
finish : (H Q X m : ℕ) → 0 < H → 4 * Q + 2 ≤ H → X < 4 * (Q * Q) → Kept X m → Kept X m × Nearest X (answer H X m)
finish H Q X m h q x k =
    let b = kept_below X m Q k x in
    (k, rounded H X m h k (omega arith))

law16 : (x y : ℕ) → High (2 ^ 14) 1 x y (exact (2 ^ 14) x y)
law16 x y = exact_high (2 ^ 14) x y (lit< tt)

law32 : (x y : ℕ) → High (2 ^ 30) 1 x y (exact (2 ^ 30) x y)
law32 x y = exact_high (2 ^ 30) x y (lit< tt)

law64 : (x y : ℕ) → High (2 ^ 62) 3 x y (halves (2 ^ 32) x y)
law64 x y = halves_high_word (2 ^ 62) (2 ^ 32) x y (lit< tt) refl

-- an exact product serves too
law64_exact : (x y : ℕ) → High (2 ^ 62) 3 x y (exact (2 ^ 62) x y)
law64_exact x y = let h = exact_high (2 ^ 62) x y (lit< tt) in (h.0, omega (arith, h.1))

pub root16 : Root16
root16 M l h =
    let s = start 1 M (lit< tt) l h in
    finish (2 ^ 15) (2 ^ 10) (M * 2 ^ 6) (kept16 M) (lit< tt) (lit≤ tt) (omega arith)
    (two (2 ^ 14) 1 (exact (2 ^ 14)) law16 M (l, omega arith) (guess 1 M) 128 3 4 2 8 (M * 2 ^ 6) fits16 (lit≤ tt) final16 (omega arith) s.1 s.0)

-- a test at the numbers below n
below : (ℕ → Bool) → ℕ → Bool
below f zero = true
below f (suc n) = both (f n) (below f n)

below_at : (f : ℕ → Bool) (n : ℕ) → T (below f n) → (k : ℕ) → k < n → T (f k)
unfolding below
below_at f zero t k h = absurd (not-suc-le-zero h)
below_at f (suc n) t k h =
    ⊎_elim (λ (e : k ≡ n). subst (λ i. T (f i)) (sym e) (both_left (f n) (below f n) t)) (λ g. below_at f n (both_right (f n) (below f n) t) k g) (eq-or-lt_of_le (le_of_suc-le-suc h))

abbrev V32 : ℕ
V32 = 2 ^ 30

abbrev raw_one : ℕ → ℕ
raw_one M = raw V32 (exact V32) false (begin (guess 65536 M) M)

abbrev raw_two : ℕ → ℕ
raw_two M = raw V32 (exact V32) true (turn V32 (exact V32) false (begin (guess 65536 M) M))

test_one : ℕ → Bool
test_one j = ltb (raw_one (V32 + j)) (2 ^ 32)

test_two : ℕ → Bool
test_two j = ltb (raw_two (V32 + j)) (2 ^ 32)

ones_pass : T (below test_one 4)
unfolding below both test_one
ones_pass = tt

twos_pass : T (below test_two 7)
unfolding below both test_two
twos_pass = tt

one_at : (j : ℕ) → j < 4 → raw_one (V32 + j) < 2 ^ 32
unfolding test_one
one_at j h = ltb→lt _ _ (below_at test_one 4 ones_pass j h)

two_at : (j : ℕ) → j < 7 → raw_two (V32 + j) < 2 ^ 32
unfolding test_two
two_at j h = ltb→lt _ _ (below_at test_two 7 twos_pass j h)

module _ (M : ℕ) (l : 2 ^ 30 ≤ M) (h : M < 2 ^ 32) where
  -- the first reciprocal of the 32-bit set fits its word
  pub one_fits : raw_one M < 2 ^ 32
  one_fits = by_contra (suc (raw_one M)) (2 ^ 32) (λ g. no (le_of_suc-le-suc g))
    where
      no : 2 ^ 32 ≤ raw_one M → ⊥
      no g =
          let s = start 65536 M (lit< tt) l h in
          let p : M ≤ V32 + 3 = past_one V32 1 (exact V32) law32 M (l, omega arith) (guess 65536 M) (2 ^ 23) (2 ^ 16) 4 2 fits32 s.1 s.0 g in
          let e : V32 + (M - V32) ≡ M = omega arith in
          let q = subst (λ x. raw_one x < 2 ^ 32) e (one_at (M - V32) (omega arith)) in
          omega arith

  pub two_fits : raw_two M < 2 ^ 32
  two_fits = by_contra (suc (raw_two M)) (2 ^ 32) (λ g. no (le_of_suc-le-suc g))
    where
      no : 2 ^ 32 ≤ raw_two M → ⊥
      no g =
          let s = start 65536 M (lit< tt) l h in
          let p : M ≤ V32 + 6 = past_two V32 1 (exact V32) law32 M (l, omega arith) (guess 65536 M) (2 ^ 23) (2 ^ 16) 4 2 8 7 5 fits32 fits32_more s.1 s.0 one_fits g in
          let e : V32 + (M - V32) ≡ M = omega arith in
          let q = subst (λ x. raw_two x < 2 ^ 32) e (two_at (M - V32) (omega arith)) in
          omega arith

  -- the half set of 64 bits hands back a reciprocal
  pub half_rec : Rec (2 ^ 30) M (half64 M) 8 × (half64 M < 2 ^ 32)
  half_rec =
      let s = start 65536 M (lit< tt) l h in
      reciprocal (2 ^ 30) 1 (exact (2 ^ 30)) law32 M (l, omega arith) (guess 65536 M) (2 ^ 23) (2 ^ 16) 4 2 8 7 5 fits32 fits32_more s.1 s.0 one_fits two_fits

pub root32 : Root32
root32 M l h =
    let s = start 65536 M (lit< tt) l h in
    finish (2 ^ 31) (2 ^ 23) (M * 2 ^ 16) (kept32 M) (lit< tt) (lit≤ tt) (omega arith)
    (three (2 ^ 30) 1 (exact (2 ^ 30)) law32 M (l, omega arith) (guess 65536 M) (2 ^ 23) (2 ^ 16) 4 2 8 7 5 64 (M * 2 ^ 16) fits32 fits32_more (lit≤ tt) final32 (omega arith) s.1 s.0 (one_fits M l h))

wide_start : (M : ℕ) → 2 ^ 62 ≤ M → M < 2 ^ 64 → Rec (2 ^ 62) M (half64 (M / 2 ^ 32) * 2 ^ 32) (9 * 2 ^ 32) × (half64 (M / 2 ^ 32) * 2 ^ 32 < 2 ^ 64)
wide_start M l h =
    let r = half_rec (M / 2 ^ 32) (omega arith) (omega arith) in
    go (half64 (M / 2 ^ 32)) r.0 r.1
  where
    go : (ρ : ℕ) → Rec (2 ^ 30) (M / 2 ^ 32) ρ 8 → ρ < 2 ^ 32 → Rec (2 ^ 62) M (ρ * 2 ^ 32) (9 * 2 ^ 32) × (ρ * 2 ^ 32 < 2 ^ 64)
    go ρ rec s =
        let w = widen (2 ^ 30) (2 ^ 32) (M / 2 ^ 32) (M % 2 ^ 32) ρ 8 (omega arith) (omega arith) rec in
        let e : 2 ^ 32 * (M / 2 ^ 32) + M % 2 ^ 32 ≡ M = omega arith in
        (subst (λ x. Rec (2 ^ 62) M x (9 * 2 ^ 32)) (mul_comm (2 ^ 32) ρ) (subst (λ x. Rec (2 ^ 62) x (2 ^ 32 * ρ) (9 * 2 ^ 32)) e w), omega arith)

module _ (m : ℕ → ℕ → ℕ) (law : (x y : ℕ) → High (2 ^ 62) 3 x y (m x y)) where
  root64_of : Root64 m
  root64_of M l h =
      let s = wide_start M l h in
      finish (2 ^ 63) (2 ^ 52) (M * 2 ^ 42) (kept64 m M) (lit< tt) (lit≤ tt) (omega arith)
      (two (2 ^ 62) 3 m law M (l, omega arith) (half64 (M / 2 ^ 32) * 2 ^ 32) (9 * 2 ^ 32) 256 10 6 512 (M * 2 ^ 42) fits64 (lit≤ tt) final64 (omega arith) s.1 s.0)

pub root64 : Root64 (halves (2 ^ 32))
root64 = root64_of (halves (2 ^ 32)) law64

pub root64_exact : Root64 (exact (2 ^ 62))
root64_exact = root64_of (exact (2 ^ 62)) law64_exact
