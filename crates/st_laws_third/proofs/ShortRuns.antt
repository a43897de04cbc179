-- In every run of the third form, no request for blocks is for more pages than a run may have.
use Rattle.st_lemmas.proofs.Words
use Words.{◌≡◌, ◌≤◌, ℕ, zero, suc, pred, true, List, [], ◌∷◌, Option, Some, None, refl, sym, subst, inl, inr, arith, le-leb, list_all}
use Words.{Body, Config, DemandedFile, HeldLock, Message, Observation, Output, Stamp}
use Words.bodies
use Words.outputs
use Words.Client as plain
use Words.ClientLocks as locks
use Words.ClientPages as pages
use Words.ClientPages.{Store}
use Words.ClientPasses as passes
use Words.ClientState.{Association, ClientSession, Requests, Turn, asking}
use Words.Lists.{Has}
use Rattle.st_rules.specs.declared.observation.Observation.TheVariants as plain_seen
use Rattle.st_laws_steps.specs.Client.Client as client
use Rattle.st_laws_steps.specs.Client.Losses.{Ends, Unknown, Passes, Hardens, Fails}
use Rattle.st_laws_steps.specs.Client.Session.{SessionChange, Keeps, DropsLock, IsReasserted, EndsRequest, NewEpoch, AsksNew, AsksAgain}
use Rattle.st_third.specs.declared.event.ThirdEvent.{ThirdEvent}
use Rattle.st_third.specs.declared.limits.Limits.{Limits}
use Rattle.st_third.specs.declared.observation.ThirdObservation.{ThirdObservation}
use Rattle.st_third.specs.declared.observation.ThirdObservation.TheVariants as seen
use Rattle.st_third.specs.declared.output.ThirdOutput.{ThirdOutput}
use Rattle.st_third.specs.declared.output.ThirdOutput.TheVariants as says
use Rattle.st_third.specs.Events as every
use Rattle.st_third.specs.Events.{third_counted}
use Rattle.st_third.specs.Limits.{most_clients}
use Rattle.st_third.specs.Promises.{RunsAreShort, is_short}
use Rattle.st_third.specs.State.{Beside, RUN, ThirdTurn, session}
use Rattle.st_third.specs.Steps as steps
use Rattle.st_third.specs.Steps.{ThirdStep, ThirdTraced}
use Rattle.st_third.specs.UsedOnce.{reduced}
use Rattle.st_third.specs.World as worlds
use Rattle.st_third.specs.World.{ThirdWorld, third_world}
use Rattle.st_laws_third.specs.Changes.{AsksRight, Bounds, Continues, IsRun, RunLimit, SameRun, WholeRun, FreeRun, Sends, Greets, Sees, Asks}
use Rattle.st_laws_third.specs.Changes.{Heard, ThirdChange, Plainly, Says, Leaves, IsBeside, WaitsForRoom, Begins, GivesBack, Reduces, bounds}
use Rattle.st_laws_third.specs.ShortRuns.{EveryAllocationIsShort}
use Rattle.st_laws_third.proofs.AllClients.{AllGood, good_after, good_first, good_said}
use Rattle.st_laws_third.proofs.Chains.{RequestRun, SessionRun}
use Rattle.st_laws_third.proofs.DemandsSeen.{People, mail_throughout, mailed_first, people_first, within_most}
use Rattle.st_laws_third.proofs.Facts.{WordRight}
use Rattle.st_laws_third.proofs.Folds as folds
use Rattle.st_laws_third.proofs.Mail.{Mailed}
use Rattle.st_laws_third.proofs.Moves.{Moved}
use Rattle.st_laws_third.proofs.ServerWords as words
use Rattle.st_laws_third.proofs.ServerWords.{server_fine}
use Rattle.st_laws_third.proofs.Sound.{Sound, sound_first}
use Rattle.st_laws_third.proofs.Told.{Told, ByClient, ByServer, ByFate, IsFate, SeenOf, ServerSeen, happens_told}
use Rattle.st_laws_third.proofs.Told as told

-- A run that is within a limit is within a greater one.

pred_most : (a b : ℕ) → a ≤ b → pred a ≤ pred b
pred_most zero b l = omega arith
pred_most (suc a) zero l = omega (arith, l)
pred_most (suc a) (suc b) l = omega (arith, l)

wider : (run n : ℕ) (b : Body) → run ≤ n → IsRun run b → IsRun n b
wider run n (bodies.Allocate ino g p count) l i = let z = pred_most run n l in omega (arith, i, z)
wider run n b l i = tt

-- At one server: the outstanding request is short, and so is the limit of runs.
record IsShort (a : Association) (b : Beside) : Type 0 where
  asked : SessionRun RUN a.session
  run : b.run ≤ RUN

-- no message requests more
abbrev WordShort : ThirdOutput → Type 0
WordShort (says.Plain (outputs.Send m)) = IsRun RUN m.body
WordShort o = Unit {0}

change_asked : (run : ℕ) (st : Store) (s u : ClientSession) (c : SessionChange st s u) → AsksRight run st s u c → run ≤ RUN → SessionRun RUN (Some s) →
    SessionRun RUN (Some u)
unfolding asking
change_asked run st s u (Keeps _ _ a) r l f = subst (λ (q : Requests). RequestRun RUN q.asked) (sym a.requests) f
change_asked run st s _ (DropsLock _ ino x) r l f = f
change_asked run st s _ (IsReasserted _) r l f = f
change_asked run st s _ (EndsRequest _ stamp) r l f = tt
change_asked run st s _ (NewEpoch _ epoch n) r l f = tt
change_asked run st s _ (AsksNew _ x now body cutting a c i) r l f = wider run RUN body l r.0
change_asked run st s _ (AsksAgain _ now q e) r l f = subst (RequestRun RUN) e f

plain_asked : (within : Bounds) (now : Stamp) (t u : Turn) (c : client.Change now t u) → Continues within now t u c → within.run ≤ RUN → SessionRun RUN t.here.session →
    SessionRun RUN u.here.session
unfolding passes.submit_read passes.submit_write passes.submit_command
plain_asked within now t _ (client.Says _ o p) n l f = f
plain_asked within now t _ (client.Operates _ os) n l f = f
plain_asked within now t _ (client.Answers _ os ops a) n l f = f
plain_asked within now t _ (client.Greets _ g) n l f = f
plain_asked within now t _ (client.TellsLost _ lost) n l f = f
plain_asked within now t _ (client.Begins _ s a b c) n l f = absurd n
plain_asked within now t _ (client.Follows _ s u e g) n l f = change_asked within.run t.here.store s u g.how n.0 l (subst (SessionRun RUN) e f)
plain_asked within now t _ (client.Learns _ e u h) n l f = f
plain_asked within now t _ (client.Forgets _ ino p i) n l f = f
plain_asked within now t _ (client.Caches _ clean) n l f = f
plain_asked within now t _ (client.Writes _ s g p bytes x sv own m h i) n l f = f
plain_asked within now t _ (client.Reads _ ino p m i clean) n l f = f
plain_asked within now t _ (client.Submits _ s ino p d m e i k w) n l f = f

-- a reduction asks nothing
reduced_asked : (t : ThirdTurn) (s : ClientSession) (d : DemandedFile) (ino : ℕ) → session t ≡ Some s → SessionRun RUN (session t) →
    SessionRun RUN (reduced s (Some d) ino t.plain).here.session
unfolding passes.reduce_by passes.reduce_given passes.reduce_to locks.reduce_at locks.reduce_lock
reduced_asked t s d ino e f = held (locks.lock_of s.locks d.ino)
  where
    held : (l : Option HeldLock) → SessionRun RUN (passes.reduce_by t.plain s ino (locks.reduce_lock s.locks d l)).here.session
    held None = f
    held (Some l) = subst (SessionRun RUN) e f

limit_short : (t : ThirdTurn) (b : Beside) → RunLimit t b → IsShort t.plain.here t.beside → b.run ≤ RUN
limit_short t b (SameRun e) g = let r = g.run in omega (arith, e, r)
limit_short t b (WholeRun e) g = omega (arith, e)
limit_short t b (FreeRun s q ino x p count e a i l) g =
    let z : count ≤ 64 = subst (IsRun RUN) i (subst (RequestRun RUN) a (subst (SessionRun RUN) e g.asked)) in omega (arith, z, l)

change_short : {got : Heard} (now : Stamp) (t u : ThirdTurn) → ThirdChange got now t u → IsShort t.plain.here t.beside → IsShort u.plain.here u.beside
unfolding Rattle.st_third.specs.State.say Rattle.st_third.specs.State.plainly
change_short {got} now t _ (Plainly _ u c p) g = record { asked = plain_asked (bounds got t) now t.plain u c p g.run g.asked; run = g.run }
change_short {got} now t _ (Says _ o w) g = g
change_short {got} now t _ (Leaves _ ls k) g = g
change_short {got} now t _ (IsBeside _ b l) g = record { asked = g.asked; run = limit_short t b l g }
change_short {got} now t _ (WaitsForRoom _ n) g = g
change_short {got} now t _ (Begins _ epoch stamp e f w) g = record { asked = tt; run = g.run }
change_short {got} now t _ (GivesBack _ s l e h) g = record { asked = subst (SessionRun RUN) e g.asked; run = g.run }
change_short {got} now t _ (Reduces _ s d ino e q i) g = record { asked = reduced_asked t s d ino e g.asked; run = g.run }

sent_short : (t : Turn) (m : Message) → Sends t m → SessionRun RUN t.here.session → IsRun RUN m.body
sent_short t _ (Greets stamp) f = tt
sent_short t _ (Sees s ino g e) f = tt
sent_short t _ (Asks s q stamp e p) f = subst (RequestRun RUN) p (subst (SessionRun RUN) e f)

word_short : (t : Turn) (o : ThirdOutput) → WordRight t o → SessionRun RUN t.here.session → WordShort o
word_short t (says.Plain (outputs.Send m)) r f = sent_short t m r f
word_short t (says.Plain (outputs.Submit number at what)) r f = tt
word_short t (says.Plain (outputs.Answer op a)) r f = tt
word_short t (says.Plain (outputs.Note n)) r f = tt
word_short t (says.Left op) r f = tt
word_short t (says.Unsynced op ino) r f = tt
word_short t (says.Ended s life end) r f = tt

ends_short : (t : Turn) (b : Beside) (number : ℕ) (ok : Rattle.std.specs.Prelude.Bool) (v : Turn) → Ends number ok t v → IsShort t.here b → IsShort v.here b
unfolding plain.hardened
ends_short t b number ok _ Unknown g = g
ends_short t b number ok _ (Passes x e o) g = record { asked = g.asked; run = g.run }
ends_short t b number ok _ (Hardens x v e o w q) g = record { asked = g.asked; run = g.run }
ends_short t b number ok _ (Fails x v e o w q) g = record { asked = g.asked; run = g.run }

abbrev Short : Config → Limits → Association → Beside → Type 0
Short k m a b = IsShort a b

short_law : (k : Config) (m : Limits) (now : Stamp) → folds.Keeps k m now (Short k m) WordShort
short_law k m now =
    record {
      change = λ t u c e l f g. change_short now t u c g;
      word = λ t g o r. word_short t.plain o r g.asked;
      ends = ends_short;
      noted = λ t b g. record { asked = g.asked; run = g.run };
      emptied = λ a. record { asked = tt; run = omega arith };
      lost = λ s life. tt;
      ended = λ s life end. tt;
      at_once = λ op a. tt;
    }

short_begun : (k : Config) (m : Limits) (a : Association) → a.session ≡ None → a.store ≡ pages.empty_store →
    IsShort (Rattle.st_third.specs.Limits.limited_association m a) Rattle.st_third.specs.State.fresh_beside
short_begun k m a n e = record { asked = subst (SessionRun RUN) (sym n) tt; run = omega arith }

-- under any limits
abbrev WordShortBy : Limits → ThirdOutput → Type 0
WordShortBy m o = WordShort o

abbrev AllShort : ThirdWorld → Type 0
AllShort w = AllGood Short WordShortBy short_law short_begun w

-- What is observed.

body_short : (b : Body) → IsRun RUN b → Rattle.st_third.specs.Promises.is_short_body b ≡ true
body_short (bodies.Allocate ino g p count) i = le-leb count 64 i
body_short b i = refl

no_run_short : (b : Body) → words.NoRun b → Rattle.st_third.specs.Promises.is_short_body b ≡ true
no_run_short (bodies.Allocate ino g p count) i = absurd i
no_run_short b i = refl

seen_short : (c : Rattle.st_base.specs.declared.ids.ClientId.ClientId) (x : ThirdOutput) (o : ThirdObservation) → SeenOf c x o → WordShort x → is_short o ≡ true
seen_short c _ _ (told.Sends m k) w = body_short m.body w
seen_short c _ _ (told.Submits number at what k) w = refl
seen_short c _ _ (told.Answers op a) w = refl
seen_short c _ _ (told.Leases s end) w = refl
seen_short c _ _ (told.Loses s life) w = refl
seen_short c _ _ (told.Writes f p bytes k) w = refl
seen_short c _ _ (told.Patches f p at bytes k) w = refl
seen_short c _ _ (told.Leaves op) w = refl
seen_short c _ _ (told.IsUnsynced op ino) w = refl
seen_short c _ _ (told.Ends s life end) w = refl

server_short : (s : Rattle.st_base.specs.declared.ids.ServerId.ServerId) (x : Output) (o : Observation) → ServerSeen s x o → words.WordFine x →
    is_short (seen.Plain o) ≡ true
server_short s _ _ (told.ServerSends m k) w = no_run_short m.body w.1
server_short s _ _ (told.Suspects c start) w = refl
server_short s _ _ (told.Steals c life) w = refl
server_short s _ _ (told.Cuts f p k) w = refl

fate_short : (o : Observation) → IsFate o → is_short (seen.Plain o) ≡ true
fate_short (plain_seen.Sent k m) i = absurd i
fate_short o i = refl

pub all_true : {A : Type 0} (f : A → Rattle.std.specs.Prelude.Bool) (xs : List A) → ((x : A) → Has x xs → f x ≡ true) → list_all f xs ≡ true
all_true f [] h = refl
all_true f (x ∷ xs) h = Rattle.st_lemmas.proofs.Tables.and_both (f x) (list_all f xs) (h x (inl refl)) (all_true f xs (λ y i. h y (inr i)))

step_short : (past : List ThirdStep) (t : ThirdTraced) (e : ThirdEvent) → Sound t.third → Mailed t.third → People t.third → AllShort t.third →
    worlds.refusal t.third e ≡ None → Moved t.third (every.happens (third_counted t.third) e).third →
    RunsAreShort past (steps.third_step t e (every.happens (third_counted t.third) e))
step_short past t e so ma p sh q mv = all_true is_short _ (λ o h. one o (happens_told w e so.form o h))
  where
    w : ThirdWorld
    w = third_counted t.third

    counted_sound : Sound w
    counted_sound = record { fits = record { sites = so.fits.sites; there = so.fits.there; pairs = so.fits.pairs }; form = so.form }

    one : (o : ThirdObservation) → Told w o → is_short o ≡ true
    one _ (ByClient c site b input x o there i h s) =
        seen_short c x o s (good_said Short WordShortBy short_law short_begun w counted_sound sh c site b input there i x h)
    one _ (ByServer s node input x o there h y) =
        server_short s x o y
        ((server_fine w.world.form node.state (Words.World.clock_of w.world (Words.nodes.Server s)) input (ma.kept s.0 node there)).said x h)
    one _ (ByFate o i) = fate_short o i

pub every_allocation_is_short : EveryAllocationIsShort
unfolding most_clients
every_allocation_is_short k m clients servers disks blocks es h =
    mail_throughout AllShort (λ w v so g mv. good_after Short WordShortBy short_law short_begun w v so g mv) RunsAreShort step_short es []
    (steps.third_traced (third_world k m clients servers disks blocks 3)) (sound_first k m clients servers disks blocks)
    (mailed_first k m clients servers disks blocks) (people_first k m clients servers disks blocks (within_most 1 64 clients h.some_clients))
    (good_first Short WordShortBy short_law short_begun k m clients servers disks blocks)
