-- The loop of the longhand root: where it starts, what a turn keeps, and what it is left with.
use Rattle.std.proofs.Common.{◌≡◌, ℕ, Option, Some, None, true, false, true≢false, is_some, suc, ◌+◌, ◌-◌, ◌*◌, ◌%◌, ◌^◌, ◌<◌, ◌≤◌, sym, ap, ◌∙◌, subst, subst₂, mod-eq_of_lt, mul_assoc, mul-pos, arith}
use native.Mathlib.Nat.{pow-succ'}
use Rattle.std.specs.Option.{MatchOption}
use Rattle.std.proofs.lemmas.Nat.{pow_pos, pow-add}
use Rattle.width.specs.Shape.{Shape, Sound, width}
use Rattle.rootlaws.specs.Longhand.{Held, Exact}
use Rattle.rootlaws.specs.Split.{lift}
use Rattle.rootlaws.specs.Whole.{Nearest}
use Rattle.rootlaws.proofs.Longhand.{held_none, held_end, rounded_up, rounded_down}
use Rattle.rootlaws.proofs.Sizes.{draw_room}
use Rattle.rootlaws.proofs.Square.{ways}

abbrev pub quarter : Shape → ℕ
quarter S = 2 ^ (S.sig + S.half)

-- what the loop keeps: as many digits are drawn as there are stored bits, less those left
abbrev pub Kept : Shape → ℕ → ℕ → ℕ → ℕ → ℕ → Type 0
Kept S M left root rem word = (left ≤ S.sig) × Held (quarter S) M (S.sig - left) root rem word

pub kept_start : (S : Shape) (M left z : ℕ) → left ≡ S.sig → z ≡ 0 → M < 4 * quarter S → Kept S M left z z M
kept_start S M left z e i h =
    let o : S.sig - left ≡ 0 = omega arith in
    (omega arith, subst₂ (λ x y. Held (quarter S) M x y y M) (sym o) (sym i) (held_none (quarter S) M h))

pub kept_next : (S : Shape) (M left root rem word : ℕ) → 0 < left → left ≤ S.sig → Held (quarter S) M (suc (S.sig - left)) root rem word → Kept S M (left - 1) root rem word
kept_next S M left root rem word p l h =
    let o : suc (S.sig - left) ≡ S.sig - (left - 1) = omega arith in
    (omega arith, subst (λ x. Held (quarter S) M x root rem word) o h)

-- one place fewer, or none
pub place_taken : (o : Option ℕ) (start end start' end' : ℕ) → (end' ≡ end) × MatchOption o ((end - start ≡ 0) × (start' ≡ start)) (λ x. (0 < end - start) × (x ≡ start) × (start' ≡ start + 1)) → is_some o ≡ true → (0 < end - start) × (end' - start' ≡ end - start - 1)
place_taken (Some x) start end start' end' (e, (p, i, q)) t = (p, omega arith)
place_taken None start end start' end' h t = absurd (true≢false (sym t))

pub no_place : (o : Option ℕ) (start end start' end' : ℕ) → (end' ≡ end) × MatchOption o ((end - start ≡ 0) × (start' ≡ start)) (λ x. (0 < end - start) × (x ≡ start) × (start' ≡ start + 1)) → is_some o ≡ false → end - start ≡ 0
no_place (Some x) start end start' end' h t = absurd (true≢false t)
no_place None start end start' end' h t = h.1.0

-- M 4^(sig + 1) = X W
square_word : (S : Shape) → Sound S → (M : ℕ) → M * (2 ^ suc S.sig * 2 ^ suc S.sig) ≡ M * 2 ^ lift S * (4 * quarter S)
square_word S ok M =
    let w = ok.wide in
    let a = sym (pow-add 2 (suc S.sig) (suc S.sig)) in
    let i : suc S.sig + suc S.sig ≡ lift S + (2 + (S.sig + S.half)) = omega arith in
    let b = pow-add 2 (lift S) (2 + (S.sig + S.half)) in
    let d = pow-add 2 2 (S.sig + S.half) in
    ap (λ y. M * y) (a ∙ ap (λ y. 2 ^ y) i ∙ b ∙ ap (λ y. 2 ^ lift S * y) d) ∙ sym (mul_assoc M (2 ^ lift S) (4 * quarter S))

module _ (S : Shape) (ok : Sound S) (bits : ℕ) (bi : bits ≡ width S) (M root rem word m : ℕ) (v : quarter S ≤ M) (h : Held (quarter S) M (suc S.sig) root rem word) where
  exact : Exact (M * 2 ^ lift S) root rem
  exact = held_end (quarter S) M (suc S.sig) root rem word (pow_pos (S.sig + S.half)) h (M * 2 ^ lift S) (square_word S ok M)

  target_some : 0 < M * 2 ^ lift S
  target_some = let p = pow_pos (S.sig + S.half) in mul-pos (positive p) (pow_pos (lift S))
    where
      positive : 0 < quarter S → 0 < M
      positive p = omega arith

  pub drawn_nearest : (root < rem → m ≡ (root + 1 % 2 ^ bits) % 2 ^ bits) → (rem ≤ root → m ≡ root) → Nearest (M * 2 ^ lift S) m
  drawn_nearest up down =
      let s = h.short in
      let p = pow-succ' 2 S.sig in
      let q = pow_pos S.sig in
      let r : 8 * 2 ^ S.sig ≤ 2 ^ bits = subst (λ x. 8 * 2 ^ S.sig ≤ 2 ^ x) (sym bi) (draw_room S ok S.sig (omega arith)) in
      let one = mod-eq_of_lt {n = 1} {m = 2 ^ bits} (omega arith) in
      let sum = mod-eq_of_lt {n = root + 1} {m = 2 ^ bits} (omega arith) in
      ways root rem (Nearest (M * 2 ^ lift S) m)
      (λ g. subst (λ x. Nearest (M * 2 ^ lift S) x) (sym (up g ∙ ap (λ x. (root + x) % 2 ^ bits) one ∙ sum)) (rounded_up (M * 2 ^ lift S) root rem exact g))
      (λ g. subst (λ x. Nearest (M * 2 ^ lift S) x) (sym (down g)) (rounded_down (M * 2 ^ lift S) root rem target_some exact g))
