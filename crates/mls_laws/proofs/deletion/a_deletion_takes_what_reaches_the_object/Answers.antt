use Rattle.mls_laws.proofs.Deleted.{objects_taken, accesses_taken, permissions_taken, label_left, integrity_left, parent_left}
use Rattle.mls_laws.proofs.deletion.a_deletion_takes_what_reaches_the_object.Goals as goal

pub returns : goal.returns
returns c = record {
  objects = λ v s o q h grants. objects_taken v s o h grants q;
  accesses = λ v s o t q x h grants. accesses_taken v s o h grants t q x;
  permissions = λ v s o t q x h grants. permissions_taken v s o h grants t q x;
  label = λ v s o q h grants. label_left v s o h grants q;
  integrity = λ v s o q h grants. integrity_left v s o h grants q;
  parent = λ v s o q h grants. parent_left v s o h grants q;
}
