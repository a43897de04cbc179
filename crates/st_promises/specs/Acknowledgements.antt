-- Cuts are acknowledged: what a server sends in the step in which it cuts a file.
use Rattle.std.specs.Prelude.{◌≡◌, Bool, true, false, ◌&&◌, ◌||◌, not, List}
use Rattle.std.specs.List.{list_any}
use Rattle.st_messages.specs.declared.message.Body.{Body}
use Rattle.st_messages.specs.declared.message.Body.TheVariants as bodies
use Rattle.st_messages.specs.declared.message.NameReply.{NameReply}
use Rattle.st_messages.specs.declared.message.NameReply.TheVariants as replies
use Rattle.st_rules.specs.declared.observation.Observation.{Observation}
use Rattle.st_rules.specs.declared.observation.Observation.TheVariants as seen
use Rattle.st_rules.specs.Safety.{Promise}
use Rattle.st_promises.specs.Faults.{refuses}

-- a reply about a name that tells its inode
abbrev pub tells_inode : NameReply → Bool
tells_inode (replies.Ino ino) = true
tells_inode reply = false

-- a message that says that what was asked was done
abbrev pub acknowledges : Body → Bool
acknowledges bodies.Ack = true
acknowledges (bodies.Named reply) = tells_inode reply
acknowledges body = false

-- the line of a cut
abbrev pub is_cut_line : Observation → Bool
is_cut_line (seen.CutAt index f p) = true
is_cut_line o = false

-- the line of a refusal
abbrev pub is_refusal_line : Observation → Bool
is_refusal_line (seen.Sent k m) = refuses m.body
is_refusal_line o = false

-- the line of an acknowledgement
abbrev pub is_done_line : Observation → Bool
is_done_line (seen.Sent k m) = acknowledges m.body
is_done_line o = false

-- lines in which a cut is acknowledged, if there is one, and nothing is refused then
abbrev pub are_acknowledged : List Observation → Bool
are_acknowledged os = not (list_any is_cut_line os) || (list_any is_done_line os && not (list_any is_refusal_line os))

-- Cuts are acknowledged: in the event that cuts a file an acknowledgement is sent, or the inode of a file that was removed, and no refusal.
abbrev pub CutsAreAcknowledged : Promise
CutsAreAcknowledged past x = are_acknowledged x.seen ≡ true
