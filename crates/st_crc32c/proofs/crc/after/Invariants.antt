use Rattle.std.proofs.Common.{◌≡◌, drop}
use Rattle.st_crc32c.specs.Crc.{after_bytes}
use Rattle.st_crc32c.proofs.crc.after.Given as goal

abbrev pub invariant-loop-byte : goal.invariant-loop-byte
invariant-loop-byte l = after_bytes l.c (drop l.byte-index l.bytes) ≡ after_bytes l.fn.c l.bytes
