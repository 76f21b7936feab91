use Rattle.std.proofs.Common.{◌+◌, ◌*◌, ◌/◌, ◌%◌, ◌^◌, ◌<◌, ◌≤◌, sym, ap, ◌∙◌, subst, ap₂}
use lib.Bits.{bit_or}
use Rattle.rootlaws.specs.Split.{exp_of, word_of, lift}
use Rattle.rootlaws.specs.Whole.{Nearest}
use Rattle.rootlaws.proofs.Split.{sig_range, word_range}
use Rattle.root.proofs.Classes.{joined_is, word_root}
use Rattle.root.proofs.longhand.positive_root.Goals as goal

pub word_of-word-requires : goal.word_of-word-requires
word_of-word-requires g c =
    let S = g.L.Layout.shape in
    subst (λ x. x < 2 * 2 ^ S.sig) (sym c.normalized-sig.ensures.sig) (sig_range S _ c.requires.0 g.L.Layout.sound.deep).1

pub drawn_root-m-requires : goal.drawn_root-m-requires
drawn_root-m-requires g c =
    let S = g.L.Layout.shape in
    let r = sig_range S _ c.requires.0 g.L.Layout.sound.deep in
    let n = c.normalized-sig.ensures in
    let w = c.word_of-word.ensures ∙ ap₂ (λ x y. word_of S x y) n.exp n.sig in
    let q = word_range S _ r.0 r.1 (exp_of S (g.L.Int.Int.nat c.args.ix)) in
    subst (λ x. (2 ^ (S.sig + S.half) ≤ x) × (x < 4 * 2 ^ (S.sig + S.half))) (sym w) q

pub returns : goal.returns
returns g c =
    let S = g.L.Layout.shape in
    let ok = g.L.Layout.sound in
    let whole = g.met.L.Layout.whole in
    let f = g.met.L.Layout.fields in
    let n = c.normalized-sig.ensures in
    let val = g.L.Int.Int.nat in
    let W = 2 ^ g.L.Int.Int.BITS in
    let w = c.word_of-word.ensures ∙ ap₂ (λ x y. word_of S x y) n.exp n.sig in
    let near = subst (λ x. Nearest (x * 2 ^ lift S) (val c.drawn_root-m.result)) w c.drawn_root-m.ensures in
    let e = c.shl-e.ensures ∙ ap (λ x. x * 2 ^ c.SIG_BITS.result % W) (c.from_u32.ensures ∙ ap (λ x. x / 2 % W) n.exp) in
    let j = joined_is S ok _ c.requires.0 c.requires.1 _ whole _ near _ _ (ap val c.SIG_MASK.ensures ∙ f.sig_mask) (c.SIG_BITS.ensures ∙ f.sig_bits) in
    word_root S ok _ c.requires.0 c.requires.1 _ whole _ near _ (c.bitor.ensures ∙ ap₂ (λ x y. bit_or x y) c.bitand.ensures e ∙ j)
