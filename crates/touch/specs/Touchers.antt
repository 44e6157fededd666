-- The number of a toucher: "0 user, 1 backup scan, 2 migration, 3 restore". Assumes nothing.
use Rattle.std.specs.Prelude.{ℕ}
use Rattle.touch.specs.declared.Toucher.{Toucher}
use Rattle.touch.specs.declared.Toucher.TheVariants.{User, BackupScan, Migration, Restore}

abbrev pub number_of : Toucher → ℕ
number_of User = 0
number_of BackupScan = 1
number_of Migration = 2
number_of Restore = 3
