use Rattle.std.proofs.Common.{◌≡◌, sym, ◌∙◌, Result, Ok, Err}
use Rattle.mls_lines.specs.LineView.{LineView}
use Rattle.mls_lines.specs.declared.fault.LineFault.{LineFault}
use Rattle.mls_lines.proofs.theorems.a_line_has_one_meaning.Goals as goal

pub returns : goal.returns
returns g c = record {
  said = λ a b first second. (let same : ◌≡◌ {A = Result LineView LineFault} (Ok a) (Ok b) = sym (c.lines_law.ensures.said a first) ∙ c.lines_law.ensures.said b second in cc);
  fault = λ f h first second. (let same : ◌≡◌ {A = Result LineView LineFault} (Err f) (Err h) = sym (c.lines_law.ensures.refuses f first) ∙ c.lines_law.ensures.refuses h second in cc);
  either = λ view f first second. (let same : ◌≡◌ {A = Result LineView LineFault} (Ok view) (Err f) = sym (c.lines_law.ensures.said view first) ∙ c.lines_law.ensures.refuses f second in cc);
}
