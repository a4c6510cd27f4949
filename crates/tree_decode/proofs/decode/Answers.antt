-- `tree_decode::decode` meets its contract. Assumes nothing.
use mathlib.Core.Path.{ap, ◌∙◌}
use Rattle.lists.specs.Lists.{splice}
use Rattle.tree_word.proofs.WordBits.{loaded, word-exact, word_counts}
use Rattle.tree_decode.proofs.decode.Goals as goal

pub decode_word-requires : goal.decode_word-requires
decode_word-requires c =
    let one = c.fits.ensures c.if-fits.true in
    (one, word-exact (loaded _ c.requires.code.lies one.bits c.load.ensures) c.requires.code.code, c.requires.room)

pub returns-then-fits : goal.returns-then-fits
returns-then-fits c =
    let one = c.fits.ensures c.if-fits.true in
    c.decode_word.ensures
    ∙ ap (splice c.args.out.now c.args.from) (word_counts (loaded _ c.requires.code.lies one.bits c.load.ensures) c.requires.code.code)
