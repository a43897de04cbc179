-- Which files are busy follows from the operations whose request was sent.
use Rattle.std.proofs.Common.{◌≡◌, ℕ, Bool, true, false, ◌&&◌, ◌||◌, not, cond, if◌then◌else◌, List, [], ◌∷◌, Option, Some, None, refl, sym, ap, ◌∙◌}
use Rattle.std.specs.Prelude.{filter}
use Rattle.std.specs.List.{list_any}
use Rattle.st_base.specs.declared.ids.ServerId.{ServerId}
use Rattle.st_base.specs.declared.ids.Stamp.{Stamp}
use Rattle.st_messages.specs.declared.ask.Ask.{Ask}
use Rattle.st_messages.specs.declared.ask.Ask.TheVariants as asks
use Rattle.st_rules.specs.declared.client.Operation.{Operation}
use Rattle.st_rules.specs.ClientLocks.{is_demanded}
use Rattle.st_rules.specs.ClientPasses.{serve_open, serve, quiesce, operate_under, operate_by, operate_on, operate, operate_each}
use Rattle.st_rules.specs.ClientState.{ClientSession, Turn, file_of, is_file, is_of, is_on, is_open_file, is_sent, is_sent_on, is_serving, keep}

any_sent : (s : ServerId) (ino : ℕ) (os : List Operation) → list_any (is_sent_on s ino) (filter is_sent os) ≡ list_any (is_sent_on s ino) os
any_sent s ino [] = refl
any_sent s ino (o ∷ os) = by (is_sent o) refl (any_sent s ino os)
  where
    by : (b : Bool) → is_sent o ≡ b → list_any (is_sent_on s ino) (filter is_sent os) ≡ list_any (is_sent_on s ino) os →
        list_any (is_sent_on s ino) (cond b (o ∷ filter is_sent os) (filter is_sent os)) ≡ ((is_sent o && is_on s ino o) || list_any (is_sent_on s ino) os)
    by true e h = ap (λ (b : Bool). (is_sent o && is_on s ino o) || b) h
    by false e h = h ∙ ap (λ (b : Bool). (b && is_on s ino o) || list_any (is_sent_on s ino) os) (sym e)

pub open_sent : (os : List Operation) (server : ServerId) (s : ClientSession) (f : Option ℕ) → is_open_file (filter is_sent os) server s f ≡ is_open_file os server s f
open_sent os server s None = refl
open_sent os server s (Some ino) = ap (λ (b : Bool). not (is_demanded s.locks ino) && not (is_file ino s.cutting || b)) (any_sent server ino os)

serve_sent : (all : List Operation) (t : Turn) (s : ClientSession) (o : Operation) → serve (filter is_sent all) t s o ≡ serve all t s o
unfolding serve
serve_sent all t s o = ap (λ (b : Bool). if b then serve_open t s o o.ask else keep o t) (open_sent all t.here.server s (file_of o.ask))

by_sent : (all : List Operation) (t : Turn) (now : Stamp) (o : Operation) (s : Option ClientSession) → operate_by (filter is_sent all) t now o s ≡ operate_by all t now o s
unfolding operate_by operate_under
by_sent all t now o None = refl
by_sent all t now o (Some s) = ap (λ (u : Turn). if is_serving t.config s now then u else quiesce t o) (serve_sent all t s o)

on_sent : (all : List Operation) (t : Turn) (now : Stamp) (o : Operation) (ask : Ask) → operate_on (filter is_sent all) t now o ask ≡ operate_on all t now o ask
unfolding operate_on
on_sent all t now o (asks.Sync f) = refl
on_sent all t now o (asks.Write f p bytes) = by_sent all t now o t.here.session
on_sent all t now o (asks.Patch f p at bytes) = by_sent all t now o t.here.session
on_sent all t now o (asks.Read f p) = by_sent all t now o t.here.session
on_sent all t now o (asks.Cut f p) = by_sent all t now o t.here.session
on_sent all t now o (asks.Name server ask) = by_sent all t now o t.here.session

operate_sent : (all : List Operation) (t : Turn) (now : Stamp) (o : Operation) → operate (filter is_sent all) t now o ≡ operate all t now o
unfolding operate
operate_sent all t now o = ap (λ (u : Turn). if is_of t.here.server o then u else keep o t) (on_sent all t now o o.ask)

-- the pass is the same by the operations that were sent as by all
pub operate_each_sent : (all : List Operation) (now : Stamp) (os : List Operation) (t : Turn) → operate_each (filter is_sent all) now os t ≡ operate_each all now os t
unfolding operate_each
operate_each_sent all now [] t = refl
operate_each_sent all now (o ∷ os) t = ap (operate_each (filter is_sent all) now os) (operate_sent all t now o) ∙ operate_each_sent all now os (operate all t now o)
