use Rattle.std.proofs.Common.{refl, subst}
use Rattle.mls_tables.specs.declared.limits.TheConstants.{MAX_SUBJECTS, MAX_OBJECTS}
use Rattle.mls_start_file.specs.Ties.{Loaded, HasFewNames}
use Rattle.mls_start_file.proofs.Few.{few_subjects, few_objects}
use Rattle.mls_start_file.proofs.loaded.Loaded.names.Goals as goal

pub returns-clause-few : goal.returns-clause-few
returns-clause-few g c =
    let names = c.self.inside.names in
    let start = c.self.inside.start in
    subst (λ (l : Loaded). HasFewNames l.names) c.self.view_is (record {
      subjects = few_subjects names start start c.subject_count.result MAX_SUBJECTS refl c.self.invariant c.subject_count.ensures.count c.subject_count.ensures.most;
      objects = few_objects names start start c.object_count.result MAX_OBJECTS refl c.self.invariant c.object_count.ensures.count c.object_count.ensures.most;
    })
