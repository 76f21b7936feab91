-- One turn of the iteration, as code over the integer works it out.
use Rattle.std.proofs.Common.{◌≡◌, ℕ, ◌+◌, ◌-◌, ◌*◌, ◌%◌, ◌^◌, ◌≤◌, Bool, cond, refl, ap, ◌∙◌, ap₂, mod-eq_of_lt, add-one, arith}
use Rattle.std.proofs.lemmas.Nat.{pow-add}
use Rattle.rootlaws.specs.Gold.{Turn, doubles, turn, turns}

-- the range of a word, by its quarter
pub quarters : (bits : ℕ) → 16 ≤ bits → 2 ^ bits ≡ 4 * 2 ^ (bits - 2)
quarters bits h =
    let i : bits ≡ 2 + (bits - 2) = omega arith in
    ap (λ x. 2 ^ x) i ∙ pow-add 2 2 (bits - 2)

-- a turn holds the three numbers
pub record Holds (t : Turn) (r s u : ℕ) : Type 0 where
  pub rec : r ≡ t.rec
  pub root : s ≡ t.root
  pub fac : u ≡ t.fac

module _ (V W : ℕ) (e : W ≡ 4 * V) (v : 1 ≤ V) (m : ℕ → ℕ → ℕ) (three : ℕ) (ti : three ≡ 3 % W * V % W) where
  three_is : three ≡ 3 * V % (4 * V)
  three_is = ti ∙ ap (λ x. x * V % W) (mod-eq_of_lt {n = 3} {m = W} (omega arith)) ∙ ap (λ x. 3 * V % x) e

  pub turn_holds : (h : Bool) (t : Turn) (r s u r' s' d' u' : ℕ) → Holds t r s u → s' ≡ cond h (m s u * 2 % W) (m s u) → d' ≡ m s' r → u' ≡ (three + W - d') % W → r' ≡ m r u' * 2 % W
      → Holds (turn V m h t) r' s' u'
  turn_holds h t r s u r' s' d' u' i si di ui ri =
      let a : s' ≡ cond h (m t.root t.fac * 2 % (4 * V)) (m t.root t.fac) = si ∙ ap₂ (λ x y. cond h (m x y * 2 % W) (m x y)) i.root i.fac ∙ ap (λ x. cond h (m t.root t.fac * 2 % x) (m t.root t.fac)) e in
      let b : d' ≡ m (cond h (m t.root t.fac * 2 % (4 * V)) (m t.root t.fac)) t.rec = di ∙ ap₂ m a i.rec in
      let c : u' ≡ (3 * V % (4 * V) + 4 * V - d') % (4 * V) = ui ∙ ap₂ (λ x y. (x + y - d') % y) three_is e in
      let f = c ∙ ap (λ x. (3 * V % (4 * V) + 4 * V - x) % (4 * V)) b in
      record { rec = ri ∙ ap₂ (λ x y. m x y * 2 % W) i.rec f ∙ ap (λ x. m t.rec (turn V m h t).fac * 2 % x) e; root = a; fac = f }

pub turns_none : (V : ℕ) (m : ℕ → ℕ → ℕ) (count : ℕ) (last : Bool) (t : Turn) → turns V m count last t 0 ≡ t
unfolding turns
turns_none V m count last t = refl

pub turns_more : (V : ℕ) (m : ℕ → ℕ → ℕ) (count : ℕ) (last : Bool) (t : Turn) (n : ℕ) → turns V m count last t (n + 1) ≡ turn V m (doubles count last n) (turns V m count last t n)
unfolding turns
turns_more V m count last t n = ap (λ k. turns V m count last t k) (add-one n)
