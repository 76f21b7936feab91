-- Sets of rounds on the model.
use Rattle.std.proofs.Common.{◌≡◌, ℕ, ◌+◌, ◌-◌, ◌*◌, ◌/◌, ◌%◌, ◌<◌, ◌≤◌, true, false, sym, refl, ap, ◌∙◌, subst, mod-eq_of_lt, mul_comm, arith}
use native.Mathlib.Nat.{add-mul-mod_self_left}
use Rattle.rootlaws.specs.Words.{top, units, Rec, Near, High, Range, Fits, Final, Kept}
use Rattle.rootlaws.specs.Gold.{Turn, fac_of, root_of, raw, turn, turns, begin, gold}
use Rattle.rootlaws.proofs.Round.{Drift, round, round_D, next_near, next_small, past}
use Rattle.rootlaws.proofs.Start.{start_near}
use Rattle.rootlaws.proofs.Last.{kept}

fac_value : (V D : ℕ) → 0 < V → D ≤ 3 * V → fac_of V D ≡ 3 * V - D
fac_value V D v h =
    let a = mod-eq_of_lt {n = 3 * V} {m = 4 * V} (omega arith) in
    let b : 3 * V + 4 * V - D ≡ (3 * V - D) + 4 * V * 1 = omega arith in
    let c = add-mul-mod_self_left (3 * V - D) (4 * V) 1 in
    let d = mod-eq_of_lt {n = 3 * V - D} {m = 4 * V} (omega arith) in
    ap (λ x. (x + 4 * V - D) % (4 * V)) a ∙ ap (λ x. x % (4 * V)) b ∙ c ∙ d

-- what holds after a turn; ρ is the reciprocal before its bits are cut
pub record Inv (V k M ρ h a b s : ℕ) (t : Turn) : Type 0 where
  pub word : t.rec ≡ ρ % (4 * V)
  pub rec : Rec V M ρ h
  pub above : M * ρ * ρ ≤ top V + units V (s + 1)
  pub drifted : Drift V k M ρ t.root t.fac a b

module _ (V k : ℕ) (m : ℕ → ℕ → ℕ) (law : (x y : ℕ) → High V k x y (m x y)) (M : ℕ) (range : Range V M) where
  step : (ρ S h a b h' a' b' : ℕ) → Fits V k h a b h' a' b' → ρ < 4 * V → Rec V M ρ h → Near V M ρ S a b
      → Inv V k M (m ρ (fac_of V (m S ρ)) * 2) h' a' b' (a + k) (record { rec = m ρ (fac_of V (m S ρ)) * 2 % (4 * V); root = S; fac = fac_of V (m S ρ) })
  step ρ S h a b h' a' b' f r rec n =
      let w = f.wide in
      let v : 0 < V = omega arith in
      let d = round_D V k h a b h' a' b' M ρ S (m S ρ) f (omega arith) rec n (law S ρ) in
      let u = fac_value V (m S ρ) v d in
      go (fac_of V (m S ρ)) (omega arith)
    where
      go : (U : ℕ) → m S ρ + U ≡ 3 * V → Inv V k M (m ρ U * 2) h' a' b' (a + k) (record { rec = m ρ U * 2 % (4 * V); root = S; fac = U })
      go U e =
          let x = round V k h a b h' a' b' M ρ S (m S ρ) U (m ρ U) f range (omega arith) rec n (law S ρ) e (law ρ U) in
          let c = mul_comm 2 (m ρ U) in
          record {
            word = refl;
            rec = subst (λ y. Rec V M y h') c x.rec;
            above = subst (λ y. M * y * y ≤ top V + units V (a + k + 1)) c x.above;
            drifted = subst (λ y. Drift V k M y S U a' b') c x.drifted;
          }

  first_turn : (r h h' a' b' : ℕ) → Fits V k h k 0 h' a' b' → r < 4 * V → Rec V M r h → Inv V k M (raw V m false (begin r M)) h' a' b' (k + k) (turn V m false (begin r M))
  first_turn r h h' a' b' f p rec = step r (m M r) h k 0 h' a' b' f p rec (start_near V k M r (m M r) (law M r))

  same_word : (ρ : ℕ) (t : Turn) → t.rec ≡ ρ % (4 * V) → ρ < 4 * V → ρ ≡ t.rec
  same_word ρ t e p = sym (e ∙ mod-eq_of_lt p)

  doubled : (Q : ℕ) → 2 * Q < 4 * V → 2 * Q ≡ Q * 2 % (4 * V)
  doubled Q h = mul_comm 2 Q ∙ sym (mod-eq_of_lt {n = Q * 2} {m = 4 * V} (omega arith))

  next_turn : (ρ h a b s h' a' b' : ℕ) (t : Turn) → Fits V k h a b h' a' b' → ρ < 4 * V → Inv V k M ρ h a b s t → Inv V k M (raw V m true t) h' a' b' (a + k) (turn V m true t)
  next_turn ρ h a b s h' a' b' t f p i =
      let Q = m t.root t.fac in
      let n = next_near V k M ρ t.root t.fac Q a b i.drifted (law t.root t.fac) in
      let dn = f.down in
      let q = next_small V M ρ Q a b h f.wide f.small (omega arith) range.1 i.rec n in
      let e = same_word ρ t i.word p in
      step t.rec (Q * 2 % (4 * V)) h a b h' a' b' f (subst (λ x. x < 4 * V) e p) (subst (λ x. Rec V M x h) e i.rec)
      (subst (λ x. Near V M x (Q * 2 % (4 * V)) a b) e (subst (λ x. Near V M ρ x a b) (doubled Q q) n))

  -- the last turn of the final set
  last_turn : (ρ h a b s G X : ℕ) (t : Turn) → 0 < V → 128 * h ≤ V → Final V G h a b → 4 * (G * G) * X ≡ M * V → Inv V k M ρ h a b s t → Kept X (root_of V m false t / G)
  last_turn ρ h a b s G X t v hs f e i =
      kept V M ρ (m t.root t.fac) G h a b X v range hs f i.rec
      (next_near V k M ρ t.root t.fac (m t.root t.fac) a b i.drifted (law t.root t.fac)) e

  -- two rounds that end in the root
  pub two : (r h h' a' b' G X : ℕ) → Fits V k h k 0 h' a' b' → 128 * h' ≤ V → Final V G h' a' b' → 4 * (G * G) * X ≡ M * V → r < 4 * V → Rec V M r h
      → Kept X ((gold V m 2 true r M).root / G)
  unfolding turns
  two r h h' a' b' G X f hs l e p rec =
      let w = f.wide in
      last_turn (raw V m false (begin r M)) h' a' b' (k + k) G X (turn V m false (begin r M)) (omega arith) hs l e (first_turn r h h' a' b' f p rec)

  -- three
  pub three : (r h h' a' b' h'' a'' b'' G X : ℕ) → Fits V k h k 0 h' a' b' → Fits V k h' a' b' h'' a'' b'' → 128 * h'' ≤ V → Final V G h'' a'' b'' → 4 * (G * G) * X ≡ M * V → r < 4 * V → Rec V M r h
      → raw V m false (begin r M) < 4 * V → Kept X ((gold V m 3 true r M).root / G)
  unfolding turns
  three r h h' a' b' h'' a'' b'' G X f f' hs l e p rec o =
      let w = f.wide in
      let t₁ = turn V m false (begin r M) in
      last_turn (raw V m true t₁) h'' a'' b'' (a' + k) G X (turn V m true t₁) (omega arith) hs l e
      (next_turn (raw V m false (begin r M)) h' a' b' (k + k) h'' a'' b'' t₁ f' o (first_turn r h h' a' b' f p rec))

  -- two rounds that end in the reciprocal
  pub reciprocal : (r h h' a' b' h'' a'' b'' : ℕ) → Fits V k h k 0 h' a' b' → Fits V k h' a' b' h'' a'' b'' → r < 4 * V → Rec V M r h
      → raw V m false (begin r M) < 4 * V → raw V m true (turn V m false (begin r M)) < 4 * V
      → Rec V M (gold V m 2 false r M).rec h'' × ((gold V m 2 false r M).rec < 4 * V)
  unfolding turns
  reciprocal r h h' a' b' h'' a'' b'' f f' p rec o₁ o₂ =
      let t₁ = turn V m false (begin r M) in
      let i = next_turn (raw V m false (begin r M)) h' a' b' (k + k) h'' a'' b'' t₁ f' o₁ (first_turn r h h' a' b' f p rec) in
      let e = same_word (raw V m true t₁) (turn V m true t₁) i.word o₂ in
      (subst (λ x. Rec V M x h'') e i.rec, subst (λ x. x < 4 * V) e o₂)

  -- where the reciprocal may leave the word
  pub past_one : (r h h' a' b' : ℕ) → Fits V k h k 0 h' a' b' → r < 4 * V → Rec V M r h → 4 * V ≤ raw V m false (begin r M) → M ≤ V + (k + k + 1)
  past_one r h h' a' b' f p rec g =
      let w = f.wide in
      past V M (raw V m false (begin r M)) (k + k) (omega arith) (first_turn r h h' a' b' f p rec).above g

  pub past_two : (r h h' a' b' h'' a'' b'' : ℕ) → Fits V k h k 0 h' a' b' → Fits V k h' a' b' h'' a'' b'' → r < 4 * V → Rec V M r h → raw V m false (begin r M) < 4 * V
      → 4 * V ≤ raw V m true (turn V m false (begin r M)) → M ≤ V + (a' + k + 1)
  past_two r h h' a' b' h'' a'' b'' f f' p rec o g =
      let w = f.wide in
      let t₁ = turn V m false (begin r M) in
      past V M (raw V m true t₁) (a' + k) (omega arith)
      (next_turn (raw V m false (begin r M)) h' a' b' (k + k) h'' a'' b'' t₁ f' o (first_turn r h h' a' b' f p rec)).above g
