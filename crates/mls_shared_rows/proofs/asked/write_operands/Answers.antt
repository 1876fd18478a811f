use Rattle.std.proofs.Common.{subst, sym}
use Rattle.mls_rows.specs.Members.{Adds}
use Rattle.mls_shared_rows.specs.Requests.{operand_members}
use Rattle.mls_shared_rows.proofs.asked.write_operands.Goals as goal

pub returns-in-Create : goal.returns-in-Create
returns-in-Create c =
    subst (λ action. Adds c.write_create.result c.args.writer.now c.write_create.new.writer (operand_members c.args.names.now action)) (sym c.in-Create.is)
    c.write_create.ensures

pub returns-in-ObjectLevel : goal.returns-in-ObjectLevel
returns-in-ObjectLevel c =
    subst (λ action. Adds c.write_relabel.result c.args.writer.now c.write_relabel.new.writer (operand_members c.args.names.now action)) (sym c.in-ObjectLevel.is)
    c.write_relabel.ensures
