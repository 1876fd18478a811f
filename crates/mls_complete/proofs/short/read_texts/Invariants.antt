use Rattle.std.proofs.Common.{◌≡◌, map, take, Some}
use Rattle.serde_json.specs.Find.{as_str}
use Rattle.serde_json.specs.View.{view}
use Rattle.mls_start_text.specs.Each.{each_of}
use Rattle.mls_complete.proofs.short.read_texts.Given as goal

-- the texts are those of the values so far
abbrev pub invariant-loop-value : goal.invariant-loop-value
invariant-loop-value l = each_of as_str (map view (take l.value-index l.list)) ≡ Some (map (λ text. text.now) l.texts.items)
