use Rattle.std.proofs.Common.{◌-◌, ◌*◌, ◌/◌, ◌%◌, ◌^◌, get_or, ap, ◌∙◌, ap₂}
use Rattle.rootlaws.specs.Table.{guesses}
use Rattle.root.proofs.Ported.{guess_word, index_low}
use Rattle.root.proofs.sqrt.first_guess.Goals as goal

pub returns : goal.returns
returns g c =
    let W = 2 ^ g.F.ISet2.Int.BITS in
    let x = g.F.Int.Int.nat c.args.ix in
    let i = ap (λ y. y % 128) (c.low_u32-i.ensures ∙ ap (λ y. y % 2 ^ 32) (c.shr.ensures.value ∙ ap (λ y. x / 2 ^ (y - 6)) (c.SIG_BITS.ensures ∙ g.met.F.Layout.fields.sig_bits))) ∙ index_low (x / 2 ^ (g.F.Layout.shape.sig - 6)) in
    let e = c.entry.ensures ∙ ap (λ y. get_or guesses y 0) i in
    c.shl.ensures ∙ ap₂ (λ y z. y * 2 ^ (z - 16) % W) (c.from_u32.ensures ∙ ap (λ y. y % W) c.from.ensures) c.BITS.ensures
    ∙ guess_word c.entry.result g.F.ISet2.Int.BITS c.entry.type_inv g.met.F.ISet2.Int.wide ∙ ap (λ y. y * 2 ^ (g.F.ISet2.Int.BITS - 16)) e
