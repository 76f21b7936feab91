-- A line that is read as two numbers writes two numbers.
use Rattle.std.proofs.Common.{◌≡◌, ℕ, ◌-◌, ◌<◌, Bool, true, false, List, [], ◌∷◌, ◌++◌, length, IsSome, refl, ap, arith}
use Rattle.std.specs.List.{AllPass}
use Rattle.std.specs.Char.{is_ascii_digit}
use Rattle.std.proofs.lemmas.List.Elements.{All-nil}
use Rattle.field.specs.declared.line.Reading.{Reading}
use Rattle.field.specs.declared.line.Reading.TheVariants.{Before, First, Between, Second, After, Broken}
use Rattle.field.specs.Pair.{is_blank, Blanks, value_of, Writes}
use Rattle.field.specs.Lines.{after_blank, after_digit, after_byte, pair_of, read}
use Rattle.field.proofs.Bytes.{after, after_byte_blank, after_byte_digit, pass_cons}

-- the reading r, taken on over the bytes bs, ends with two numbers
abbrev Ends : Reading → List ℕ → Type 0
Ends r bs = IsSome (pair_of (after r bs))

-- bs is any number of bytes that pass p, and then bytes of which Q holds
abbrev Any : (ℕ → Bool) → (List ℕ → Type 0) → List ℕ → Type 0
Any p Q bs = (xs : List ℕ) × (ys : List ℕ) × (bs ≡ xs ++ ys) × AllPass p xs × Q ys

-- the same, and at least one byte passes p
abbrev Many : (ℕ → Bool) → (List ℕ → Type 0) → List ℕ → Type 0
Many p Q bs = (xs : List ℕ) × (ys : List ℕ) × (bs ≡ xs ++ ys) × (AllPass p xs × (0 < length xs)) × Q ys

any_none : (p : ℕ → Bool) (Q : List ℕ → Type 0) (bs : List ℕ) → Q bs → Any p Q bs
any_none p Q bs q = ([], bs, refl, All-nil (λ x. p x ≡ true), q)

any_more : (p : ℕ → Bool) (Q : List ℕ → Type 0) (c : ℕ) (cs : List ℕ) → p c ≡ true → Any p Q cs → Any p Q (c ∷ cs)
any_more p Q c cs t (xs, ys, e, h, q) = (c ∷ xs, ys, ap (λ zs. c ∷ zs) e, pass_cons p c xs t h, q)

many_more : (p : ℕ → Bool) (Q : List ℕ → Type 0) (c : ℕ) (cs : List ℕ) → p c ≡ true → Any p Q cs → Many p Q (c ∷ cs)
many_more p Q c cs t (xs, ys, e, h, q) = (c ∷ xs, ys, ap (λ zs. c ∷ zs) e, (pass_cons p c xs t h, omega arith), q)

-- what the rest of a line is after the reading r, where it ends with two numbers
abbrev Rest : Reading → List ℕ → Type 0
Rest Before = Any is_blank (Many is_ascii_digit (Many is_blank (Many is_ascii_digit Blanks)))
Rest (First x) = Any is_ascii_digit (Many is_blank (Many is_ascii_digit Blanks))
Rest (Between x) = Any is_blank (Many is_ascii_digit Blanks)
Rest (Second x y) = Any is_ascii_digit Blanks
Rest (After x y) = Blanks
Rest Broken = λ _. ⊥

-- ---- the rest of a line, byte by byte

rest_none : (r : Reading) → Ends r [] → Rest r []
rest_none Before h = cc
rest_none (First x) h = cc
rest_none (Between x) h = cc
rest_none (Second x y) h = any_none is_ascii_digit Blanks [] (All-nil _)
rest_none (After x y) h = All-nil _
rest_none Broken h = cc

rest_blank : (r : Reading) (c : ℕ) (cs : List ℕ) → is_blank c ≡ true → Rest (after_blank r) cs → Rest r (c ∷ cs)
rest_blank Before c cs t h = any_more is_blank _ c cs t h
rest_blank (First x) c cs t h = any_none is_ascii_digit _ (c ∷ cs) (many_more is_blank _ c cs t h)
rest_blank (Between x) c cs t h = any_more is_blank _ c cs t h
rest_blank (Second x y) c cs t h = any_none is_ascii_digit Blanks (c ∷ cs) (pass_cons is_blank c cs t h)
rest_blank (After x y) c cs t h = pass_cons is_blank c cs t h
rest_blank Broken c cs t h = h

rest_digit : (r : Reading) (c d : ℕ) (cs : List ℕ) → is_ascii_digit c ≡ true → Rest (after_digit r d) cs → Rest r (c ∷ cs)
rest_digit Before c d cs t h = any_none is_blank _ (c ∷ cs) (many_more is_ascii_digit _ c cs t h)
rest_digit (First x) c d cs t h = any_more is_ascii_digit _ c cs t h
rest_digit (Between x) c d cs t h = any_none is_blank _ (c ∷ cs) (many_more is_ascii_digit _ c cs t h)
rest_digit (Second x y) c d cs t h = any_more is_ascii_digit _ c cs t h
rest_digit (After x y) c d cs t h = absurd h
rest_digit Broken c d cs t h = h

-- by the first byte, which is a blank, a digit, or a byte that breaks the reading
rest_cons : (r : Reading) (c : ℕ) (cs : List ℕ) → ((s : Reading) → after_byte r c ≡ s → Rest s cs) → (b d : Bool) → is_blank c ≡ b → is_ascii_digit c ≡ d → Rest r (c ∷ cs)
rest_cons r c cs on true d p q = rest_blank r c cs p (on (after_blank r) (after_byte_blank r c p))
rest_cons r c cs on false true p q = rest_digit r c (c - 48) cs q (on (after_digit r (c - 48)) (after_byte_digit r c q))
rest_cons r c cs on false false p q = absurd (on Broken (rw (p, q)))

rest : (bs : List ℕ) (r : Reading) → Ends r bs → Rest r bs
rest [] r h = rest_none r h
rest (c ∷ cs) r h = rest_cons r c cs (λ s e. rest cs s (rw e at h)) (is_blank c) (is_ascii_digit c) refl refl

-- ---- the whole line

-- the five parts of a line, from what it is after nothing has been read
parts : (bs : List ℕ) → Rest Before bs → (a : ℕ) × (b : ℕ) × Writes bs a b
parts bs (lead, u, cut-lead, lead_blanks, (first, v, cut-first, (first-digits, first_some), (gap, w, cut-gap, (gap_blanks, gap_some), (second, tail, cut-second, (second_digits, second-some), tail_blanks)))) = (
  value_of first,
  value_of second,
  record {
    lead = lead;
    first = first;
    gap = gap;
    second = second;
    tail = tail;
    cut = cc;
    lead_blanks = lead_blanks;
    first_number = record { digits = first-digits; some = first_some; value = refl };
    gap_blanks = gap_blanks;
    gap_some = gap_some;
    second_number = record { digits = second_digits; some = second-some; value = refl };
    tail_blanks = tail_blanks;
  },
)

pub written_read : (bs : List ℕ) → IsSome (read bs) → (a : ℕ) × (b : ℕ) × Writes bs a b
written_read bs h = parts bs (rest bs Before h)
