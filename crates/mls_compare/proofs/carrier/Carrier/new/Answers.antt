use Rattle.mls_tables.specs.declared.limits.TheConstants.{MAX_SUBJECTS}
use Rattle.mls_compare.proofs.Labels.{by_table, kept_same}
use Rattle.mls_compare.proofs.carrier.Carrier.new.Goals as goal

pub returns : goal.returns
returns c = record {
  subjects = λ s. by_table c.args.first.now.subjects c.args.second.now.subjects MAX_SUBJECTS s c.in_ok-subjects.subjects.items c.requires
      c.in_ok-subjects.ensures;
  security = kept_same c.security.result.now c.args.first.now.security c.security-2.result.now c.args.second.now.security c.in_ok-security.security.items c.security.ensures c.security-2.ensures c.in_ok-security.ensures;
  integrity = kept_same c.integrity.result.now c.args.first.now.integrity c.integrity-2.result.now c.args.second.now.integrity c.in_ok-integrity.integrity.items c.integrity.ensures c.integrity-2.ensures c.in_ok-integrity.ensures;
}
