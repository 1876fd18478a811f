use Rattle.std.proofs.Common.{sym, ◌<◌, arith}
use Rattle.mls_labels.proofs.CategoryWords.{with_word}
use Rattle.mls_labels.proofs.cat_set.CatSet.with.Goals as goal

pub returns : goal.returns
returns c =
    let within : c.args.n < 256 = omega (arith, c.ranges.n.fits) in
    rw (c.put.ensures, c.word.ensures, ← c.self.view_is) (sym (with_word c.self.inside.words c.args.n within))
