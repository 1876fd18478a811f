use Rattle.std.proofs.Common.{subst, sym}
use Rattle.mls_rows.specs.Members.{Adds}
use Rattle.mls_differences.specs.ChangeForms.{sides_members}
use Rattle.mls_differences.proofs.change_rows.write_sides.Goals as goal

pub returns-in-Maximum : goal.returns-in-Maximum
returns-in-Maximum c =
    subst (λ change. Adds c.write_securities.result c.args.writer.now c.write_securities.new.writer (sides_members c.args.names.0.now c.args.names.1.now change))
    (sym c.in-Maximum.is) c.write_securities.ensures

pub returns-in-Current : goal.returns-in-Current
returns-in-Current c =
    subst (λ change. Adds c.write_securities-in-Current.result c.args.writer.now c.write_securities-in-Current.new.writer (sides_members c.args.names.0.now c.args.names.1.now change))
    (sym c.in-Current.is) c.write_securities-in-Current.ensures

pub returns-in-Own : goal.returns-in-Own
returns-in-Own c =
    subst (λ change. Adds c.write_integrities.result c.args.writer.now c.write_integrities.new.writer (sides_members c.args.names.0.now c.args.names.1.now change))
    (sym c.in-Own.is) c.write_integrities.ensures

pub returns-in-Security : goal.returns-in-Security
returns-in-Security c =
    subst (λ change. Adds c.write_securities-in-Security.result c.args.writer.now c.write_securities-in-Security.new.writer (sides_members c.args.names.0.now c.args.names.1.now change))
    (sym c.in-Security.is) c.write_securities-in-Security.ensures

pub returns-in-Integrity : goal.returns-in-Integrity
returns-in-Integrity c =
    subst (λ change. Adds c.write_integrities-in-Integrity.result c.args.writer.now c.write_integrities-in-Integrity.new.writer (sides_members c.args.names.0.now c.args.names.1.now change))
    (sym c.in-Integrity.is) c.write_integrities-in-Integrity.ensures
