-- A line that writes two numbers is read as those two, each capped.
use Rattle.std.proofs.Common.{◌≡◌, ℕ, ◌+◌, ◌-◌, ◌*◌, ◌<◌, List, [], ◌∷◌, map, length, Some, sym, refl, ap, ◌∙◌, arith}
use Rattle.std.specs.Char.{is_ascii_digit}
use Rattle.std.specs.Int.Digits.{number_from_digits_after}
use Rattle.field.specs.declared.line.Reading.{Reading}
use Rattle.field.specs.declared.line.Reading.TheVariants.{Before, First, Between, Second, After}
use Rattle.field.specs.Pair.{is_blank, Blanks, Digits, Numeral, Writes}
use Rattle.field.specs.Lines.{capped, longer, after_blank, after_digit, pair_of, read}
use Rattle.field.proofs.Capped.{longer_capped, digit_capped}
use Rattle.field.proofs.Bytes.{after, after_parts, after_byte_blank, after_byte_digit, digit_small, pass_head, pass_tail}

-- ---- blanks

-- where one blank changes nothing, no number of blanks does
blanks_kept : (r : Reading) → after_blank r ≡ r → (cs : List ℕ) → Blanks cs → after r cs ≡ r
blanks_kept r e [] h = refl
blanks_kept r e (c ∷ cs) h = after_parts r (c ∷ []) cs (after_byte_blank r c (pass_head is_blank c cs h) ∙ e) ∙ blanks_kept r e cs (pass_tail is_blank c cs h)

gap_read : (x : ℕ) (cs : List ℕ) → Blanks cs → 0 < length cs → after (First x) cs ≡ Between x
gap_read x [] h some = absurd (omega arith)
gap_read x (c ∷ cs) h some = after_parts (First x) (c ∷ []) cs (after_byte_blank (First x) c (pass_head is_blank c cs h)) ∙ blanks_kept (Between x) refl cs (pass_tail is_blank c cs h)

tail_read : (x y : ℕ) (cs : List ℕ) → Blanks cs → pair_of (after (Second x y) cs) ≡ Some (x, y)
tail_read x y [] h = refl
tail_read x y (c ∷ cs) h = ap pair_of (after_parts (Second x y) (c ∷ []) cs (after_byte_blank (Second x y) c (pass_head is_blank c cs h)) ∙ blanks_kept (After x y) refl cs (pass_tail is_blank c cs h))

-- ---- digits

-- `at n` is a reading within a number that is n so far: the first or the second of the line
module _ (at : ℕ → Reading) (more : (n d : ℕ) → after_digit (at n) d ≡ at (longer n d)) where
  digits_read : (n : ℕ) (cs : List ℕ) → Digits cs → after (at (capped n)) cs ≡ at (capped (number_from_digits_after 10 n (map (λ c. c - 48) cs)))
  digits_read n [] h = refl
  digits_read n (c ∷ cs) h =
      let r = at (capped n) in
      let step = after_byte_digit r c (pass_head is_ascii_digit c cs h) ∙ more (capped n) (c - 48) ∙ ap at (longer_capped n (c - 48)) in
      after_parts r (c ∷ []) cs step ∙ digits_read (n * 10 + (c - 48)) cs (pass_tail is_ascii_digit c cs h)

  -- a whole number, whose first digit takes the reading from r to `at`
  number_read : (r : Reading) → ((d : ℕ) → after_digit r d ≡ at d) → (cs : List ℕ) (n : ℕ) → Numeral cs n → after r cs ≡ at (capped n)
  number_read r start [] n h = let some = h.some in absurd (omega arith)
  number_read r start (c ∷ cs) n h =
      let t = pass_head is_ascii_digit c cs h.digits in
      let step = after_byte_digit r c t ∙ start (c - 48) ∙ ap at (digit_capped (c - 48) (digit_small c t)) in
      after_parts r (c ∷ []) cs step ∙ digits_read (0 * 10 + (c - 48)) cs (pass_tail is_ascii_digit c cs h.digits) ∙ ap (λ m. at (capped m)) (sym h.value)

-- ---- the five parts

pub read_written : (bs : List ℕ) (a b : ℕ) → Writes bs a b → read bs ≡ Some (capped a, capped b)
read_written bs a b w =
    let x = capped a in
    let y = capped b in
    let lead = blanks_kept Before refl w.lead w.lead_blanks in
    let first = number_read First (λ _ _. refl) Before (λ _. refl) w.first a w.first_number in
    let gap = gap_read x w.gap w.gap_blanks w.gap_some in
    let second = number_read (Second x) (λ _ _. refl) (Between x) (λ _. refl) w.second b w.second_number in
    let parts = after_parts Before w.lead _ lead ∙ after_parts Before w.first _ first ∙ after_parts (First x) w.gap _ gap ∙ after_parts (Between x) w.second w.tail second in
    ap read w.cut ∙ ap pair_of parts ∙ tail_read x y w.tail w.tail_blanks
