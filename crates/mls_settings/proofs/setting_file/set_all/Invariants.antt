use Rattle.std.proofs.Common.{◌≡◌, drop}
use Rattle.mls_start_text.specs.Views.{file_view}
use Rattle.mls_settings.specs.Settings.{set_all}
use Rattle.mls_settings.proofs.setting_file.set_all.Given as goal

-- what is set and what is left to set are all
abbrev pub invariant-loop-setting : goal.invariant-loop-setting
invariant-loop-setting l =
    set_all (file_view l.set) (drop l.setting-index l.settings) ≡ set_all (file_view l.fn.file) l.settings
