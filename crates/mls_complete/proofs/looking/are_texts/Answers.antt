use Rattle.std.proofs.Common.{sym}
use Rattle.serde_json.specs.Find.{as_str}
use Rattle.serde_json.specs.View.{view}
use Rattle.mls_start_text.proofs.Rows.{some_more, some_lacks}
use Rattle.mls_complete.proofs.looking.are_texts.Goals as goal

pub returns-then-not-is_string : goal.returns-then-not-is_string
returns-then-not-is_string c = sym (some_lacks view as_str c.args.list.now c.loop-value.value-index c.value-item.result c.loop-value-test.true c.value-item.is (sym c.if-not-is_string.ensures))

pub loop-value-preserved : goal.loop-value-preserved
loop-value-preserved c = some_more view as_str c.args.list.now c.loop-value.value-index c.value-item.result c.loop-value-test.true c.value-item.is (sym c.if-not-is_string.ensures) c.loop-value.invariant
