-- The error numbers of register x0.
use Rattle.std.specs.Prelude.{ℕ}
use Rattle.gh_base.specs.declared.errno.Errno.{Errno}
use Rattle.gh_base.specs.declared.errno.Errno.TheVariants.{Unimplemented, Retry, ArgInval}
use Rattle.gh_base.specs.declared.errno.Errno.TheVariants.{ArgSize, ArgAlign, Nomem, AddrOvfl}
use Rattle.gh_base.specs.declared.errno.Errno.TheVariants.{AddrInval, Denied, Busy, ObjState}
use Rattle.gh_base.specs.declared.errno.Errno.TheVariants.{ObjConfig, CapNull, CapRevoked}
use Rattle.gh_base.specs.declared.errno.Errno.TheVariants.{WrongType, InsufRights, CspaceFull}
use Rattle.gh_base.specs.declared.errno.Errno.TheVariants.{QueueEmpty, QueueFull}

-- the number of each error; -1 and -2 are 64-bit two's complement
abbrev pub errno_number : Errno → ℕ
errno_number Unimplemented = 0xffff_ffff_ffff_ffff
errno_number Retry = 0xffff_ffff_ffff_fffe
errno_number ArgInval = 1
errno_number ArgSize = 2
errno_number ArgAlign = 3
errno_number Nomem = 10
errno_number AddrOvfl = 20
errno_number AddrInval = 22
errno_number Denied = 30
errno_number Busy = 31
errno_number ObjState = 33
errno_number ObjConfig = 34
errno_number CapNull = 50
errno_number CapRevoked = 51
errno_number WrongType = 52
errno_number InsufRights = 53
errno_number CspaceFull = 54
errno_number QueueEmpty = 60
errno_number QueueFull = 61
