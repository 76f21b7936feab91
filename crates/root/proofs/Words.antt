-- The sizes of a layout's words, as code over the layout reads them.
use Rattle.std.proofs.Common.{◌≡◌, ℕ, ◌+◌, ◌-◌, ◌*◌, ◌^◌, ◌≤◌, sym, ap, ◌∙◌, subst, arith}
use Rattle.width.specs.Shape.{Shape, Sound, width}
use Rattle.rootlaws.proofs.Sizes.{word_range, draw_room}

-- the two highest digits of a word
pub top_digits : (S : Shape) (bits : ℕ) → bits ≡ width S → 2 ^ (bits - 2) ≡ 2 ^ (S.sig + S.half)
top_digits S bits e = ap (λ x. 2 ^ x) (omega arith)

pub range_is : (S : Shape) (bits : ℕ) → bits ≡ width S → 2 ^ bits ≡ 4 * 2 ^ (S.sig + S.half)
range_is S bits e = ap (λ x. 2 ^ x) e ∙ word_range S

pub room_is : (S : Shape) (bits : ℕ) → Sound S → bits ≡ width S → (j : ℕ) → j ≤ S.sig → 8 * 2 ^ j ≤ 2 ^ bits
room_is S bits ok e j h = subst (λ x. 8 * 2 ^ j ≤ 2 ^ x) (sym e) (draw_room S ok j h)
