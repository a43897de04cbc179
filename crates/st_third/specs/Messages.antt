-- Messages of version 3: the layout of version 1 with wider ranges, the ask of version 2, and a new
-- ask and two new answers. And the lines of a schedule of the third form that no other form has.
use Rattle.std.specs.Prelude.{ℕ, Bool, true, ◌&&◌, ◌||◌, ◌==◌, List, [], ◌∷◌, ◌++◌, length, codes, ◌≡◌, ⊤}
use Rattle.st_base.specs.declared.ids.ClientId.{ClientId}
use Rattle.st_base.specs.declared.ids.GrantNo.{GrantNo}
use Rattle.st_base.specs.declared.ids.ServerId.{ServerId}
use Rattle.st_base.specs.declared.config.Config.{Config}
use Rattle.st_base.specs.declared.disk.BlockAt.{BlockAt}
use Rattle.st_base.specs.declared.mode.Mode.{Mode}
use Rattle.st_base.specs.declared.rows.ExtentRow.{ExtentRow}
use Rattle.st_messages.specs.declared.kind.Kind.{Kind}
use Rattle.st_messages.specs.declared.kind.Kind.TheVariants as kinds
use Rattle.st_messages.specs.declared.message.Body.{Body}
use Rattle.st_messages.specs.declared.message.Body.TheVariants as bodies
use Rattle.st_messages.specs.declared.message.Header.{Header}
use Rattle.st_messages.specs.declared.kind.Party.{Party}
use Rattle.st_messages.specs.declared.kind.Party.TheVariants as parties
use Rattle.st_messages.specs.Kinds.{between, is_word64, kind_of_body, receiver, sender}
use Rattle.st_messages.specs.Ranges as ranges
use Rattle.st_messages.specs.Ranges.{are_rows, is_ino, is_page, is_word32}
use Rattle.st_codec.specs.KindBytes.{number_of}
use Rattle.st_codec.specs.Spelling as plain
use Rattle.st_codec_fields.specs.Spelling.{byte, word16, word32}
use Rattle.st_rules.specs.Report.{client, field}
use Rattle.st_third.specs.declared.limits.Limits.{Limits}
use Rattle.st_third.specs.declared.message.ThirdMessage.{ThirdMessage}
use Rattle.st_third.specs.declared.message.ThirdMessage.TheVariants as third

-- Ranges: clients are the nodes 1 to 64, and servers the nodes 32,769 to 32,776.
abbrev pub includes : Party → ℕ → Bool
includes parties.Client n = between 1 64 n
includes parties.Server n = between 32769 32776 n
includes parties.Node n = between 1 64 n || between 32769 32776 n
includes parties.Surroundings n = n == 0

-- the header of a kind
unfoldable pub is_header : Kind → Header → Bool
is_header k h = (includes (sender k) h.from && includes (receiver k) h.to) && (ranges.are_ages k h && ranges.are_marks k h)

-- a reassertion has up to 4,096 rows
unfoldable pub are_locks : List (ℕ × GrantNo × Mode) → Bool
are_locks rs = between 0 4096 (length rs) && are_rows ranges.is_lock_row ranges.after_lock 1 rs

-- a block below 268,435,456 of one of sixteen disks
abbrev pub is_block : BlockAt → Bool
is_block b = between 1 16 b.disk.0 && between 0 268435455 b.block

-- an extent, of which the page is at least this
abbrev pub is_extent_row : ℕ → ExtentRow → Bool
is_extent_row least r = is_page least r.page.0 && (is_block r.at && is_word64 r.birth)

-- up to 64 extents
unfoldable pub are_extents : List ExtentRow → Bool
are_extents rs = between 0 64 (length rs) && are_rows is_extent_row ranges.after_extent 0 rs

-- a body
unfoldable pub is_body : Body → Bool
is_body (bodies.Reassert rs) = are_locks rs
is_body (bodies.Extents ino rs) = is_ino ino && are_extents rs
is_body body = ranges.is_body body

-- every field of the message is in its range
unfoldable pub fits : ThirdMessage → Bool
fits (third.Plain m) = is_header (kind_of_body m.body) m.header && is_body m.body
fits (third.Leave h op s) = is_header kinds.App h && (is_word32 op && between 1 65535 s.0)
fits (third.Left h op) = is_header kinds.AppDone h && is_word32 op
fits (third.Unsynced h op ino) = is_header kinds.AppDone h && (is_word32 op && is_ino ino)

-- Spelling: the version and the kind's number, the header, and the body.
unfoldable pub front : Kind → Header → List ℕ
front k h = (3 ∷ number_of k ∷ []) ++ plain.header h

-- the one spelling of a message: the ask `leave` has kind 7, the answer `left` kind 7, and the
-- answer `unsynced` kind 27
unfoldable pub spelling : ThirdMessage → List ℕ
spelling (third.Plain m) = front (kind_of_body m.body) m.header ++ plain.body m.body
spelling (third.Leave h op s) = front kinds.App h ++ (word32 op ++ (7 ∷ word16 s.0))
spelling (third.Left h op) = front kinds.AppDone h ++ (word32 op ++ byte 7)
spelling (third.Unsynced h op ino) = front kinds.AppDone h ++ (word32 op ++ (27 ∷ word32 ino))

-- These bytes spell this message.
pub record Spells (bytes : List ℕ) (m : ThirdMessage) : Type 0 where
  pub text : bytes ≡ spelling m
  pub ranges : fits m ≡ true

-- The lines of a schedule, without the line's end.

-- the settings in a head
abbrev pub settings_text : Config → List ℕ
settings_text k =
    field k.lease ++ field k.renew ++ field k.quiesce ++ field k.flush ++ field k.demand ++ field k.retry ++ field k.num ++ field k.den ++ field k.grain

-- the limits in a head
abbrev pub limits_text : Limits → List ℕ
limits_text m = field m.inodes ++ field m.locks ++ field m.dirty ++ field m.clean ++ field m.operations

-- The head
unfoldable pub head_line : Config → Limits → ℕ → ℕ → ℕ → ℕ → List ℕ
head_line k m clients servers disks blocks =
    codes "tank 3" ++ settings_text k ++ field clients ++ field servers ++ field disks ++ field blocks ++ limits_text m

-- an ask to leave
unfoldable pub leave_line : ClientId → ServerId → List ℕ
leave_line c s = codes "app" ++ client c ++ codes " leave" ++ field s.0

-- opens all of this file and of those below it
unfoldable pub messages_open : ⊤
unfolding is_header are_locks are_extents is_body fits front spelling head_line leave_line
messages_open = tt
