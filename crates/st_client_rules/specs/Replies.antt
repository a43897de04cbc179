-- What a reply does, by the outstanding request, if there is one.
use Rattle.std.specs.Prelude.{ℕ, Bool, false, Option, Some, None}
use Rattle.st_base.specs.declared.ids.GrantNo.{GrantNo}
use Rattle.st_base.specs.declared.ids.Stamp.{Stamp}
use Rattle.st_messages.specs.declared.message.Body.{Body}
use Rattle.st_messages.specs.declared.message.Body.TheVariants as bodies
use Rattle.st_rules.specs.declared.client.Asked.{Asked}
use Rattle.st_rules.specs.declared.client.Asked.TheVariants.{Reduce, NotHeld, Stale}
use Rattle.st_rules.specs.declared.client.Request.{Request}
use Rattle.st_rules.specs.ClientReplies as replies
use Rattle.st_rules.specs.ClientState.{Turn, send, with_session}
use Rattle.st_client_association.specs.Turns.{session_of}

-- a reply counts for it
abbrev pub counts : ℕ → Body → Option Request → Bool
counts number reply None = false
counts number reply (Some q) = replies.is_counting number reply q

-- it is a reassertion, which the reply refuses
abbrev pub refuses : Body → Option Request → Bool
refuses reply None = false
refuses reply (Some q) = replies.refuses_reassertion reply q.body

-- a reply that counts ends it
abbrev pub replied : Turn → Stamp → Stamp → Body → Option Request → Turn
replied t now stamp reply None = t
replied t now stamp reply (Some q) = replies.reply_to t (session_of t) now stamp reply q.body

-- a reply that counts
abbrev pub count_reply : Turn → Stamp → Stamp → Body → Option Request → Turn
count_reply t now stamp reply None = t
count_reply t now stamp reply (Some q) = replies.count_reply t (session_of t) now stamp reply q.body

-- what becomes of a demand, once the locks are as after it
abbrev pub demanded : Turn → ℕ → GrantNo → Asked → Turn
demanded t ino g Reduce = send t (session_of t).epoch.0 0 0 (bodies.DemandSeen ino g)
demanded t ino g NotHeld = with_session (replies.release_unheld (session_of t) ino g) t
demanded t ino g Stale = t
