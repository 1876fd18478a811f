use Rattle.std.specs.Prelude.{◌≡◌, drop}
use Rattle.mls_could.specs.Rows.{any_open}
use Rattle.mls_could.proofs.listed.any_open.Given as goal

-- it depends on what is left
abbrev pub invariant-loop-one : goal.invariant-loop-one
invariant-loop-one l = any_open l.found ≡ any_open (drop l.one-index l.found)
