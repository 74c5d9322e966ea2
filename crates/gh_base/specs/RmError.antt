-- The error numbers of the resource manager's replies.
use Rattle.std.specs.Prelude.{ℕ}
use Rattle.gh_base.specs.declared.rm.RmError.{RmError}
use Rattle.gh_base.specs.declared.rm.RmError.TheVariants.{Ok, Unimplemented, NoResource, Denied}
use Rattle.gh_base.specs.declared.rm.RmError.TheVariants.{Busy, ArgumentInvalid, HandleInvalid}
use Rattle.gh_base.specs.declared.rm.RmError.TheVariants.{ValidateFailed, MapFailed, MemInvalid}
use Rattle.gh_base.specs.declared.rm.RmError.TheVariants.{MemInuse, MemReleased, VmidInvalid}

-- the number of each error; -1 is 32-bit two's complement
abbrev pub rm_error_number : RmError → ℕ
rm_error_number Ok = 0
rm_error_number Unimplemented = 0xffff_ffff
rm_error_number NoResource = 2
rm_error_number Denied = 3
rm_error_number Busy = 5
rm_error_number ArgumentInvalid = 6
rm_error_number HandleInvalid = 7
rm_error_number ValidateFailed = 8
rm_error_number MapFailed = 9
rm_error_number MemInvalid = 10
rm_error_number MemInuse = 11
rm_error_number MemReleased = 12
rm_error_number VmidInvalid = 13
