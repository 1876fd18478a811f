use Rattle.std.proofs.Common.{◌≡◌, true, map, take, is_some}
use Rattle.serde_json.specs.Find.{as_str}
use Rattle.serde_json.specs.View.{view}
use Rattle.mls_start_text.specs.Each.{each_of}
use Rattle.mls_complete.proofs.looking.are_texts.Given as goal

-- the values so far are texts
abbrev pub invariant-loop-value : goal.invariant-loop-value
invariant-loop-value l = is_some (each_of as_str (map view (take l.value-index l.list))) ≡ true
