use Rattle.mls_start_text.specs.Views.{file_view}
use Rattle.mls_settings.specs.Settings.{set_all}
use Rattle.mls_settings.proofs.Set.{set_more, set_done}
use Rattle.mls_settings.proofs.setting_file.set_all.Goals as goal

pub loop-setting-preserved : goal.loop-setting-preserved
loop-setting-preserved c =
    set_more (file_view c.loop-setting.set) (file_view c.in_ok-set.set) (set_all (file_view c.args.file) c.args.settings.now) c.args.settings.now
    c.loop-setting.setting-index _ c.loop-setting-test.true c.in_ok-set.ensures c.loop-setting.invariant

pub returns : goal.returns
returns c =
    set_done (file_view c.loop-setting.set) (set_all (file_view c.args.file) c.args.settings.now) c.args.settings.now c.loop-setting.setting-index
    c.loop-setting-test.false c.loop-setting.invariant
