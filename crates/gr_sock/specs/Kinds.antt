-- Which errors of a system mean what to a post.
use Rattle.std.specs.Prelude.{Bool, true, false}
use Rattle.std.specs.declared.io.Error.{Error}
use Rattle.std.specs.declared.io.ErrorKind.{ErrorKind}
use Rattle.std.specs.declared.io.ErrorKind.TheVariants as kind
use Rattle.std.specs.IoError.{error_kind}
use Rattle.gr_out.specs.declared.post.PostFault.{PostFault}
use Rattle.gr_out.specs.declared.post.PostFault.TheVariants.{Failed, Memory}

-- an error that says nothing of the socket: no datagram is there, or an earlier one did not arrive
abbrev pub passes : ErrorKind → Bool
passes kind.WouldBlock = true
passes kind.Interrupted = true
passes kind.ConnectionRefused = true
passes kind.ConnectionReset = true
passes kind.HostUnreachable = true
passes kind.NetworkUnreachable = true
passes kind.NetworkDown = true
passes _ = false

-- want of memory is told as such, and every other error as a failure
abbrev pub fault_of_kind : ErrorKind → PostFault
fault_of_kind kind.OutOfMemory = Memory
fault_of_kind _ = Failed

abbrev pub fault_for : Error → PostFault
fault_for error = fault_of_kind (error_kind error)
