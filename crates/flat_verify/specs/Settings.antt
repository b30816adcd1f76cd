-- What the program's settings stand for.
use Rattle.flat_verify.specs.declared.setting.Setting.{Setting as SettingWritten}
use Rattle.flat_discipline.specs.Facts.{Setting}
use Rattle.flat_verify.specs.Views.{setting_for}

-- what is asked of the program around the function
abbrev pub setting_of : SettingWritten → Setting
setting_of s = setting_for s.globals.now s.functions.now s.function.now
