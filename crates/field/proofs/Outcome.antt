-- What the two numbers that a line is read as say of the line.
use Rattle.std.proofs.Common.{◌≡◌, ℕ, List, Some, None, Err, Option, refl, Result, MatchResult, ap, subst}
use Rattle.std.specs.Option.{ok_or}
use Rattle.std.proofs.lemmas.Result.{MatchResult-weaker}
use Rattle.field.specs.declared.sides.Sides.{Sides}
use Rattle.field.specs.declared.refusal.Refusal.{Refusal}
use Rattle.field.specs.declared.refusal.Refusal.TheVariants.{NotPair, NoSide, TooLong}
use Rattle.field.specs.Field.{fault_of}
use Rattle.field.specs.Pair.{Writes, Faulty, Refused}
use Rattle.field.specs.Lines.{capped, read}
use Rattle.field.proofs.Capped.{capped_same, fault_capped, fault_none, fault_pair}
use Rattle.field.proofs.Complete.{read_written}
use Rattle.field.proofs.Sound.{written_read}

-- a line that is not read as two numbers does not write two
none_written : (bs : List ℕ) → read bs ≡ None → Refused bs NotPair
none_written bs e a b w = let r = read_written bs a b w in cc

pub none_refused : (bs : List ℕ) (e : Refusal) → ok_or (read bs) NotPair ≡ Err e → Refused bs e
none_refused bs e h = go (read bs) refl h
  where
    go : (o : Option (ℕ × ℕ)) → read bs ≡ o → ok_or o NotPair ≡ Err e → Refused bs e
    go None n h = let why : NotPair ≡ e = cc in subst (Refused bs) why (none_written bs n)
    go (Some p) n h = cc

module _ (bs : List ℕ) (x y : ℕ) (e : read bs ≡ Some (x, y)) where
  -- a line that is read as x and y writes two numbers that are x and y once capped
  behind : (a : ℕ) × (b : ℕ) × Writes bs a b × (x ≡ capped a) × (y ≡ capped b)
  behind =
      let (a, b, w) = written_read bs (rw e) in
      let r = read_written bs a b w in
      let same : ◌≡◌ {A = ℕ × ℕ} (x, y) (capped a, capped b) = cc in
      (a, b, w, ap (λ p. p.0) same, ap (λ p. p.1) same)

  -- and these are x and y, where x and y are sides
  pub sides_written : fault_of x y ≡ None → Writes bs x y
  sides_written f =
      let (a, b, w, p, q) = behind in
      let short = fault_none x y f in
      rw (capped_same a x p short.0, capped_same b y q short.1) at w

  faulty : (why : Refusal) → fault_of x y ≡ Some why → Faulty bs why
  faulty why f = let (a, b, w, p, q) = behind in (a, b, w, cc (fault_capped a b))

  -- or have the same fault
  pub fault_written : (why : Refusal) → fault_of x y ≡ Some why → Refused bs why
  fault_written NotPair f = absurd (fault_pair x y f)
  fault_written NoSide f = faulty NoSide f
  fault_written TooLong f = faulty TooLong f

-- the sides that two numbers give are the sides that the line gives
pub sides_outcome : (bs : List ℕ) (x y : ℕ) (r : Result Sides Refusal) → read bs ≡ Some (x, y) → MatchResult r (λ s. (fault_of x y ≡ None) × (s.length ≡ x) × (s.breadth ≡ y)) (λ e. fault_of x y ≡ Some e) → MatchResult r (λ s. Writes bs s.length s.breadth) (λ e. Refused bs e)
sides_outcome bs x y r e h = MatchResult-weaker r h (λ s f. rw (f.1, f.2) (sides_written bs x y e f.0)) (fault_written bs x y e)
