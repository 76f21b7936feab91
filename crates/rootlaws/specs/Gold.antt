-- Goldschmidt's iteration on naturals, in words of range 4 V, over a product m for the high word.
use Rattle.std.specs.Prelude.{ℕ, zero, suc, ◌+◌, ◌-◌, ◌*◌, ◌%◌, Bool, cond, not, ◌&&◌, ◌||◌, nat_lt}

-- what one turn holds: the reciprocal, the root, and the factor
pub record Turn : Type 0 where
  pub rec : ℕ
  pub root : ℕ
  pub fac : ℕ

-- whether turn i of `count` doubles the root
abbrev pub doubles : ℕ → Bool → ℕ → Bool
doubles count last i = nat_lt 0 i && (not last || nat_lt (i + 1) count)

abbrev pub moved : ℕ → Bool → ℕ → ℕ
moved V h s = cond h (s * 2 % (4 * V)) s

abbrev pub fac_of : ℕ → ℕ → ℕ
fac_of V d = (3 * V % (4 * V) + 4 * V - d) % (4 * V)

abbrev pub root_of : ℕ → (ℕ → ℕ → ℕ) → Bool → Turn → ℕ
root_of V m h t = moved V h (m t.root t.fac)

-- the reciprocal before the word's bits are cut
abbrev pub raw : ℕ → (ℕ → ℕ → ℕ) → Bool → Turn → ℕ
raw V m h t = m t.rec (fac_of V (m (root_of V m h t) t.rec)) * 2

abbrev pub turn : ℕ → (ℕ → ℕ → ℕ) → Bool → Turn → Turn
turn V m h t = record {
  rec = raw V m h t % (4 * V);
  root = root_of V m h t;
  fac = fac_of V (m (root_of V m h t) t.rec);
}

-- the first n turns of `count`
unfoldable pub turns : ℕ → (ℕ → ℕ → ℕ) → ℕ → Bool → Turn → ℕ → Turn
turns V m count last t zero = t
turns V m count last t (suc n) = turn V m (doubles count last n) (turns V m count last t n)

abbrev pub begin : ℕ → ℕ → Turn
begin r M = record { rec = r; root = M; fac = r }

-- all the turns
abbrev pub gold : ℕ → (ℕ → ℕ → ℕ) → ℕ → Bool → ℕ → ℕ → Turn
gold V m count last r M = turns V m count last (begin r M) count
