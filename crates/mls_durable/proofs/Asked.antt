-- What a session's line says in which a variable stands, or none.
use Rattle.std.proofs.Common.{◌≡◌, ℕ, true, false, Bool, Result, Ok, Err, refl, sym, ap, ◌∙◌}
use Rattle.mls_lines.specs.declared.fault.LineFault.{LineFault}
use Rattle.mls_lines.specs.LineView.{LineView, Blank, Asks}
use Rattle.mls_scripts.specs.Script.{Standing, left_by}
use Rattle.mls_durable.specs.Sessions.{without_variable}

-- where one stands the line leaves all as it is
leaves : (k : ℕ) (s : Standing) (said : Result LineView LineFault) → s ≡ left_by k s (without_variable true said)
leaves k s (Ok Blank) = refl
leaves k s (Ok (Asks bind a)) = refl
leaves k s (Err fault) = refl

pub left_variable : (k : ℕ) (s : Standing) (said : Result LineView LineFault) (has : Bool) → has ≡ true → s ≡ left_by k s (without_variable has said)
left_variable k s said has is = leaves k s said ∙ ap (λ (t : Bool). left_by k s (without_variable t said)) (sym is)

-- where none does it says what it says
says : (said : Result LineView LineFault) → without_variable false said ≡ said
says (Ok Blank) = refl
says (Ok (Asks bind a)) = refl
says (Err fault) = refl

pub plain_said : (has : Bool) (said : Result LineView LineFault) → has ≡ false → without_variable has said ≡ said
plain_said has said is = ap (λ (t : Bool). without_variable t said) is ∙ says said
