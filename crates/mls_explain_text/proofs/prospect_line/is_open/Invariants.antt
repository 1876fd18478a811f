use Rattle.std.specs.Prelude.{◌≡◌, drop}
use Rattle.mls_explain_text.specs.Who.{is_open}
use Rattle.mls_explain_text.proofs.prospect_line.is_open.Given as goal

-- it depends on what is left
abbrev pub invariant-loop-prospect : goal.invariant-loop-prospect
invariant-loop-prospect l = is_open l.prospects ≡ is_open (drop l.prospect-index l.prospects)
