use Rattle.std.proofs.Common.{◌≡◌, map, take}
use Rattle.mls_start_text.specs.Views.{child_view}
use Rattle.mls_settings.specs.Settings.{set_child}
use Rattle.mls_settings.proofs.setting_file.set_children.Given as goal

-- those so far
abbrev pub invariant-loop-child : goal.invariant-loop-child
invariant-loop-child l = map child_view l.set.items ≡ map (set_child l.setting) (map child_view (take l.child-index l.children))
