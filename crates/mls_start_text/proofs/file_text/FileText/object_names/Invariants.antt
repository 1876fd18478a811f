use Rattle.std.proofs.Common.{◌≡◌, ◌∷◌, map, take}
use Rattle.mls_start_text.specs.Views.{child_view}
use Rattle.mls_start_text.proofs.file_text.FileText.object_names.Given as goal

-- the root's name and those of the objects so far
abbrev pub invariant-loop-child : goal.invariant-loop-child
invariant-loop-child l = map (λ name. name.now) l.names.items ≡ l.self.root.name.now ∷ map (λ c. c.object.name) (map child_view (take l.child-index l.self.children.items))
