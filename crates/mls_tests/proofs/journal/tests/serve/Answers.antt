use Rattle.mls_tests.proofs.Pushed.{opened, first_file}
use Rattle.mls_tests.proofs.journal.tests.serve.Goals as goal

pub serve_durably-requires : goal.serve_durably-requires
serve_durably-requires c = record {
  at_rest = λ h is. opened c.requires.file.0 h c.requires.file.1 is;
  behind = λ h is. first_file c.requires.file.0 h c.args.monitor.entries c.requires.file.1 is c.requires.empty;
}
