-- The products, the table, and where a set of rounds starts.
use Rattle.std.proofs.Common.{◌≡◌, ℕ, zero, suc, ◌+◌, ◌-◌, ◌*◌, ◌/◌, ◌%◌, ◌^◌, ◌<◌, ◌≤◌, Bool, true, false, T, ltb, leb, List, [], ◌∷◌, length, get_or, sym, refl, ap, ◌∙◌, subst, le_trans, le_of_suc-le-suc, not-suc-le-zero, add-zero, add-suc, mul-le-mul_right, mod-lt, div-lt_iff_lt-mul, mul-le-mul, suc-add, mul-le-mul_left, div-add-mod', zero-add, div-mul-le_self, arith, ltb→lt, leb→le}
use native.Mathlib.Nat.{div-add-mod, lt-div-mul-add, mul-add-div_right, mul-div-mul_right}
use Rattle.std.proofs.lemmas.Bool.{lt-ltb, le-ltb}
use Rattle.rootlaws.specs.Words.{Rec, Near, High}
use Rattle.rootlaws.specs.Table.{guesses, low, high, index, guess, Close}
use Rattle.width.specs.Product.{exact, halves}
use Rattle.rootlaws.proofs.Square.{cancel<, ways}

-- the exact product
pub exact_high : (V x y : ℕ) → 0 < V → High V 1 x y (exact V x y)
exact_high V x y v =
    let a = div-mul-le_self (x * y) (4 * V) in
    let b = lt-div-mul-add {a = x * y} {b = 4 * V} (omega arith) in
    (a, omega arith)

-- the product from halves
module _ (B x₁ x₀ y₁ y₀ c₁ d₁ c₂ d₂ : ℕ) where
  halves_sum : B * c₁ + d₁ ≡ x₁ * y₀ → B * c₂ + d₂ ≡ x₀ * y₁ → (x₁ * B + x₀) * (y₁ * B + y₀) ≡ (x₁ * y₁ + c₁ + c₂) * (B * B) + (B * d₁ + B * d₂ + x₀ * y₀)
  halves_sum e f = omega (arith, ap (λ z. B * z) e, ap (λ z. B * z) f)

rest_low : (B d₁ d₂ x y : ℕ) → d₁ < B → d₂ < B → x < B → y < B → B * d₁ + B * d₂ + x * y + 4 * B ≤ 3 * (B * B) + 1
rest_low B d₁ d₂ x y p q r s = go (B - 1) (omega arith)
  where
    all : (C : ℕ) → d₁ ≤ C → d₂ ≤ C → x ≤ C → y ≤ C → suc C * d₁ + suc C * d₂ + x * y + 4 * suc C ≤ 3 * (suc C * suc C) + 1
    all C a b c d = omega (arith, mul-le-mul_left (suc C) a, mul-le-mul_left (suc C) b, mul-le-mul c d)

    go : (C : ℕ) → suc C ≡ B → B * d₁ + B * d₂ + x * y + 4 * B ≤ 3 * (B * B) + 1
    go C e = rw (sym e) (all C (omega arith) (omega arith) (omega arith) (omega arith))

pub halves_low : (B x y : ℕ) → 0 < B → halves B x y * (B * B) ≤ x * y
halves_low B x y b =
    let e = halves_sum B (x / B) (x % B) (y / B) (y % B) (x / B * (y % B) / B) (x / B * (y % B) % B) (x % B * (y / B) / B) (x % B * (y / B) % B) (div-add-mod _ B) (div-add-mod _ B) in
    fin (halves B x y * (B * B)) _ (x * y) (rw (div-add-mod' x B, div-add-mod' y B) at e)
  where
    fin : (h r p : ℕ) → p ≡ h + r → h ≤ p
    fin h r p e = omega arith

-- x y + 4 B ≤ h W + 3 W + 1
pub halves_high : (B x y : ℕ) → 0 < B → x * y + 4 * B ≤ halves B x y * (B * B) + 3 * (B * B) + 1
halves_high B x y b =
    let e = halves_sum B (x / B) (x % B) (y / B) (y % B) (x / B * (y % B) / B) (x / B * (y % B) % B) (x % B * (y / B) / B) (x % B * (y / B) % B) (div-add-mod _ B) (div-add-mod _ B) in
    let r = rest_low B (x / B * (y % B) % B) (x % B * (y / B) % B) (x % B) (y % B) (mod-lt _ b) (mod-lt _ b) (mod-lt x b) (mod-lt y b) in
    fin (halves B x y * (B * B)) _ (x * y) (4 * B) (3 * (B * B)) (rw (div-add-mod' x B, div-add-mod' y B) at e) r
  where
    fin : (h r p q s : ℕ) → p ≡ h + r → r + q ≤ s + 1 → p + q ≤ h + s + 1
    fin h r p q s e f = omega arith

-- below the range, and three words' slack
pub halves_word : (B x y : ℕ) → 0 < B → x < B * B → y < B * B → halves B x y < B * B
halves_word B x y b p q =
    let h = halves_low B x y b in
    fin (halves B x y) (B * B) h
  where
    fin : (h W : ℕ) → h * (B * B) ≤ x * y → h < B * B
    fin h W g = cancel< (B * B) h (B * B) (less (mul-le-mul p q))
      where
        less : suc x * suc y ≤ B * B * (B * B) → B * B * h < B * B * (B * B)
        less k = omega arith

pub halves_high_word : (V B x y : ℕ) → 0 < B → B * B ≡ 4 * V → High V 3 x y (halves B x y)
halves_high_word V B x y b e =
    (rw (sym e) (halves_low B x y b), rw (sym e) (let h = halves_high B x y b in fin (halves B x y * (B * B)) (B * B) h))
  where
    fin : (h W : ℕ) → x * y + 4 * B ≤ h + 3 * W + 1 → x * y ≤ h + 3 * W
    fin h W g = omega arith

-- a set starts with S = high (M ρ)
pub start_near : (V k M ρ S : ℕ) → High V k M ρ S → Near V M ρ S k 0
start_near V k M ρ S h = (h.1, omega (arith, h.0))

-- a rule of a table, proved at all of its entries by one computed test
unfoldable pub both : Bool → Bool → Bool
both true b = b
both false b = false

pub both_left : (a b : Bool) → T (both a b) → T a
unfolding both
both_left true b t = tt
both_left false b t = t

pub both_right : (a b : Bool) → T (both a b) → T b
unfolding both
both_right true b t = t
both_right false b t = absurd t

every : (ℕ → ℕ → Bool) → ℕ → List ℕ → Bool
every f i [] = true
every f i (x ∷ xs) = both (f i x) (every f (suc i) xs)

from : (f : ℕ → ℕ → Bool) (xs : List ℕ) (i : ℕ) → T (every f i xs) → (k : ℕ) → k < length xs → T (f (i + k) (get_or xs k 0))
unfolding every
from f [] i t k h = absurd (not-suc-le-zero h)
from f (x ∷ xs) i t zero h = subst (λ (m : ℕ). T (f m x)) (sym (add-zero i)) (both_left (f i x) (every f (suc i) xs) t)
from f (x ∷ xs) i t (suc k) h =
    subst (λ (m : ℕ). T (f m (get_or xs k 0))) (suc-add i k ∙ sym (add-suc i k))
    (from f xs (suc i) (both_right (f i x) (every f (suc i) xs) t) k (le_of_suc-le-suc h))

test : ℕ → ℕ → Bool
test i e = both (both (leb (2 ^ 38) (e * e * low i + 2 ^ 31)) (leb (e * e * high i) (2 ^ 38 + 2 ^ 31))) (ltb e 65536)

table_passes : T (every test 0 guesses)
unfolding every both test
table_passes = tt

test_close : (i e : ℕ) → T (test i e) → Close i e
unfolding test
test_close i e t =
    let l = both_left _ _ t in
    record { below = leb→le _ _ (both_left _ _ l); above = leb→le _ _ (both_right _ _ l); small = ltb→lt _ _ (both_right _ _ t) }

-- every entry is close
pub table : (i : ℕ) → i < 128 → Close i (get_or guesses i 0)
table i h = test_close i (get_or guesses i 0) (subst (λ (m : ℕ). T (test m (get_or guesses i 0))) (zero-add i) (from test guesses 0 table_passes i h))

-- M stands in the cell of its index
pub record Cell (c M i : ℕ) : Type 0 where
  pub within : i < 128
  pub low_le : low i * (256 * c) ≤ M
  pub high_lt : M < high i * (256 * c)

cell_of : (c M i : ℕ) → 0 < c → 16384 * c ≤ M → M < 65536 * c → index c M ≡ i → Cell c M i
cell_of c M i p l u e =
    ways M (32768 * c) (Cell c M i)
    (λ g. first g (rw (lt-ltb M (32768 * c) g) at e))
    (λ g. second g (rw (le-ltb M (32768 * c) g) at e))
  where
    first : M < 32768 * c → M / (256 * c) ≡ i → Cell c M i
    first g f =
        let a = div-mul-le_self M (256 * c) in
        let b = lt-div-mul-add {a = M} {b = 256 * c} (omega arith) in
        go (rw f at a) (rw f at b)
      where
        go : i * (256 * c) ≤ M → M < i * (256 * c) + 256 * c → Cell c M i
        go a b =
            let x : i < 128 = cancel< (256 * c) i 128 (omega arith) in
            let y : 63 < i = cancel< (256 * c) 63 i (omega arith) in
            let z : ltb i 64 ≡ false = le-ltb i 64 (omega arith) in
            record { within = x; low_le = rw z a; high_lt = rw z (omega arith) }

    second : 32768 * c ≤ M → M / (512 * c) - 64 ≡ i → Cell c M i
    second g f =
        let a = div-mul-le_self M (512 * c) in
        let b = lt-div-mul-add {a = M} {b = 512 * c} (omega arith) in
        go (M / (512 * c)) f a b
      where
        go : (j : ℕ) → j - 64 ≡ i → j * (512 * c) ≤ M → M < j * (512 * c) + 512 * c → Cell c M i
        go j f a b =
            let x : j < 128 = cancel< (512 * c) j 128 (omega arith) in
            let y : 63 < j = cancel< (512 * c) 63 j (omega arith) in
            let z : ltb i 64 ≡ true = lt-ltb i 64 (omega arith) in
            let w : j ≡ 64 + i = omega arith in
            let a' = rw w at a in
            let b' = rw w at b in
            record { within = omega arith; low_le = rw z (omega arith); high_lt = rw z (omega arith) }

-- the table's start: ρ = T c at width 65536 c
start_rec : (c M A B e : ℕ) → A * (256 * c) ≤ M → M < B * (256 * c) → 2 ^ 38 ≤ e * e * A + 2 ^ 31 → e * e * B ≤ 2 ^ 38 + 2 ^ 31 → Rec (16384 * c) M (e * c) (128 * c)
start_rec c M A B e l h x y = (
  omega (arith, mul-le-mul_left (e * e * (c * c)) l, mul-le-mul_left (256 * (c * c * c)) x),
  omega (arith, mul-le-mul_left (e * e * (c * c)) h, mul-le-mul_left (256 * (c * c * c)) y),
)

pub start : (c M : ℕ) → 0 < c → 16384 * c ≤ M → M < 65536 * c → Rec (16384 * c) M (guess c M) (128 * c) × (guess c M < 65536 * c)
start c M p l h =
    let i = index c M in
    let k = cell_of c M i p l h refl in
    let t = table i k.within in (
      start_rec c M (low i) (high i) (get_or guesses i 0) k.low_le k.high_lt t.below t.above,
      omega (arith, mul-le-mul_right c t.small),
    )

-- widening: W' = Q W, M' = Q M + l, ρ' = Q ρ
pub widen : (V Q M l ρ h : ℕ) → l ≤ Q → ρ ≤ 4 * V → Rec V M ρ h → Rec (Q * V) (Q * M + l) (Q * ρ) ((h + 1) * Q)
widen V Q M l ρ h lq r rec = (
  omega (arith, mul-le-mul_left (Q * Q * Q) rec.0),
  omega (arith, mul-le-mul_left (Q * Q * Q) rec.1, mul-le-mul_left (Q * Q) (mul-le-mul lq (mul-le-mul r r))),
)

-- a product that is at most k too low
pub near_high : (V k x y p : ℕ) → 0 < V → p ≤ x * y / (4 * V) → x * y / (4 * V) ≤ p + k → High V (k + 1) x y p
near_high V k x y p v l h =
    let a = div-mul-le_self (x * y) (4 * V) in
    let b = lt-div-mul-add {a = x * y} {b = 4 * V} (omega arith) in
    (le_trans (mul-le-mul_right (4 * V) l) a, fin (x * y / (4 * V)) (mul-le-mul_right (4 * V) h) b)
  where
    fin : (q : ℕ) → q * (4 * V) ≤ (p + k) * (4 * V) → x * y < q * (4 * V) + 4 * V → x * y ≤ p * (4 * V) + (k + 1) * (4 * V)
    fin q a b = omega arith

-- the index of a word made of a significand Q + f, Q = 64 z, moved up by E or 2 E, where 256 c = z E
module _ (c z E f : ℕ) (zp : 0 < z) (Ep : 0 < E) (e : 256 * c ≡ z * E) (u : f < 64 * z) where
  quot : (64 * z + f) / z ≡ 64 + f / z
  quot = mul-add-div_right zp 64 f

  pub index_odd : index c ((64 * z + f) * E) ≡ 64 + f / z
  index_odd =
      let g : (64 * z + f) * E < 32768 * c = omega (arith, mul-le-mul_right E u) in
      rw (lt-ltb ((64 * z + f) * E) (32768 * c) g, e) (mul-div-mul_right (64 * z + f) z Ep ∙ quot)

  pub index_even : index c ((64 * z + f) * (2 * E)) ≡ f / z
  index_even =
      let g : 32768 * c ≤ (64 * z + f) * (2 * E) = omega arith in
      let d : 512 * c ≡ z * (2 * E) = omega arith in
      let q : (64 * z + f) * (2 * E) / (z * (2 * E)) ≡ 64 + f / z = mul-div-mul_right (64 * z + f) z (omega arith) ∙ quot in
      rw (le-ltb ((64 * z + f) * (2 * E)) (32768 * c) g, d, q) (omega arith)

-- the index bits of a pattern x 2^p + f
pub index_bits : (x z f : ℕ) → 0 < z → f < 64 * z → (x * (64 * z) + f) / z % 128 ≡ 64 * (x % 2) + f / z
index_bits x z f p u =
    let a : x * (64 * z) + f ≡ (64 * x) * z + f = omega arith in
    let b = mul-add-div_right p (64 * x) f in
    let d = (div-lt_iff_lt-mul {k = z} {x = f} {y = 64} p).1 u in
    ap (λ y. y % 128) (ap (λ y. y / z) a ∙ b) ∙ fin (f / z) d
  where
    fin : (q : ℕ) → q < 64 → (64 * x + q) % 128 ≡ 64 * (x % 2) + q
    fin q h = omega arith

-- the upper half of a 64-bit word has the word's index
pub index_half : (M : ℕ) → index 65536 (M / 2 ^ 32) ≡ index (2 ^ 48) M
index_half M =
    ways M (2 ^ 63) (index 65536 (M / 2 ^ 32) ≡ index (2 ^ 48) M)
    (λ g. rw (lt-ltb M (2 ^ 63) g, lt-ltb (M / 2 ^ 32) (2 ^ 31) (omega arith)) (omega arith))
    (λ g. rw (le-ltb M (2 ^ 63) g, le-ltb (M / 2 ^ 32) (2 ^ 31) (omega arith)) (omega arith))
