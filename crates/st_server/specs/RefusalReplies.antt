-- How refusals are reported in a reply.
use Rattle.std.specs.Prelude.{◌≡◌, ℕ, Option, Some, None}
use Rattle.st_base.specs.declared.disk.BlockAt.{BlockAt}
use Rattle.st_base.specs.declared.ids.PageNo.{PageNo}
use Rattle.st_base.specs.declared.rows.ExtentRow.{ExtentRow}
use Rattle.st_base.specs.declared.ids.GrantNo.{GrantNo}
use Rattle.st_base.specs.declared.names.NameRefusal.{NameRefusal}
use Rattle.st_base.specs.declared.names.NameRefusal.TheVariants.{NoEntry, Exists, NotDir, IsDir, NotEmpty, Cycle, BadName, TooMany, Memory}
use Rattle.st_messages.specs.declared.message.Body.{Body}
use Rattle.st_reassert.specs.declared.refusal.ReassertRefusal.{ReassertRefusal}
use Rattle.st_reassert.specs.declared.refusal.ReassertRefusal.TheVariants as refusals
use Rattle.st_messages.specs.declared.message.Body.TheVariants.{Named, Nack}
use Rattle.st_messages.specs.declared.message.Why.TheVariants as why
use Rattle.st_messages.specs.declared.message.NameReply.TheVariants.{Refused}

-- the number of a refusal; running out of memory has none
abbrev pub number_of : NameRefusal → ℕ
number_of NoEntry = 1
number_of Exists = 2
number_of NotDir = 3
number_of IsDir = 4
number_of NotEmpty = 5
number_of Cycle = 6
number_of BadName = 7
number_of TooMany = 8
number_of Memory = 0

-- the reply that tells it
abbrev pub refused : NameRefusal → Body
refused r = Named (Refused (number_of r))

-- no file has this inode
abbrev pub no_file_body : ℕ → Body
no_file_body ino = Nack why.NoFile ino 0

-- the client does not hold the file under this grant number
abbrev pub not_holder_body : ℕ → GrantNo → Body
not_holder_body ino g = Nack why.NotHolder ino g.0

-- a page's row, by its block and birth, if it is mapped
abbrev pub row_told : PageNo → Option (BlockAt × ℕ) → Option ExtentRow
row_told p None = None
row_told p (Some e) = Some (record { page = p; at = e.0; birth = e.1 })

-- the reply tells why a reassertion is refused
abbrev pub IsRefusal : ReassertRefusal → Body → Type 0
IsRefusal (refusals.GraceOver start now) body = body ≡ Nack why.GraceOver start.0 now.0
IsRefusal (refusals.Conflict ino holder) body = body ≡ Nack why.Conflict ino holder.0
IsRefusal (refusals.NotHolder ino g) body = body ≡ Nack why.NotHolder ino g.0
IsRefusal refusals.Memory body = ⊥
