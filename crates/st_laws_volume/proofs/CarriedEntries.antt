-- In every run each write that was submitted carries an entry of the log: a change of that page by its client, in the life in which it submitted the command.
use Rattle.st_lemmas.proofs.Words
use Words.{◌≡◌, ◌≤◌, ℕ, zero, suc, ◌+◌, ◌⊎◌, Bool, true, false, List, [], ◌∷◌, ◌++◌, Option, Some, None, Ok, Err, refl, sym, ap, ◌∙◌, subst, inl, inr, arith}
use Words.{Result, if◌then◌else◌, find, length, map, nat_le, option_map, set, slice_get, Command, ClientId, Life, NodeId, ServerId, Stamp}
use Words.{Ask, Event, Note, Output, ClientInput, DiskCommand, ServerInput, Fate, LogEntry, LogOwner, Observation, StepRefusal, Carried, IssuedCommand, LeaseLife}
use Words.{SentMessage}
use Words.commands
use Words.nodes
use Words.events
use Words.notes
use Words.outputs
use Words.refusals
use Words.reports
use Words.seen
use Words.changes
use Words.fates
use Words.Admissible as adm
use Words.Client as cl
use Words.ClientLease as lease
use Words.ClientState.{Association, ClientSession, ClientState, is_at}
use Words.Disks as disks
use Words.Events as ev
use Words.Events.{WorldTurn, is_change, last_write, world_step}
use Words.FlatLog as log
use Words.Lines as lines
use Words.Lists.{Has}
use Words.Lookups.{some_is}
use Words.Numbers.{get_below, get_there, length_more, numbered_more, numbered_own}
use Words.Server as server
use Words.Server.{ServerNode}
use Words.Tables.{found_at}
use Words.World as world
use Words.World.{World, WorldClient, clock_of, issued_of, life_with, message_of, node_of, numbered, site_of}
use Rattle.st_rules.specs.declared.node.StepRefusal.TheVariants.{Crashed}
use Rattle.st_lemmas.proofs.Marks.{of_entry}
use Rattle.st_lemmas.proofs.Steps.{step_happens}
use Rattle.st_laws_steps.specs.Client.Losses.{is_ended}
use Rattle.st_laws_steps.specs.Lives.Lives.{LivesHold, NodeHolds, clock_in}
use Rattle.st_laws_pages.specs.Disks.Folds.{owner_at}
use Rattle.st_laws_pages.specs.Disks.World.{PagesHold, Timely}
use Rattle.st_laws_pages.proofs.Causes.Commands.{at_more}
use Rattle.st_laws_pages.proofs.Causes.FlushSteps.{flushes_disks}
use Rattle.st_laws_pages.proofs.Disks.Law.{owner_more, owner_same}
use Rattle.st_laws_pages.proofs.Fates.Owing.{last_more}
use Rattle.st_laws_pages.proofs.Flush.Flushing.{step_flushed}
use Rattle.st_laws_pages.proofs.Lives.Lasting.{Flushed, flush_parts}
use Rattle.st_laws_pages.proofs.Lives.LifeSteps.{steps_so}
use Rattle.st_laws_pages.proofs.Lives.NodeTurns.{row_is}

none_more : (n : ℕ) → n ≡ n + 0
none_more n = omega arith

-- what a command carries is an entry of its own client, life and page, and of a file of the server to whose disks it went
abbrev pub IsOwn : List LogEntry → IssuedCommand → Carried → Type 0
IsOwn es x y = (owner_at es y.index ≡ Some (world.owner_carried x y)) × (y.file.server ≡ x.server)

abbrev pub CarriesOwn : List LogEntry → IssuedCommand → Type 0
CarriesOwn es x = (y : Carried) → x.carries ≡ Some y → IsOwn es x y

abbrev pub AllCarryOwn : List LogEntry → List IssuedCommand → Type 0
AllCarryOwn es cs = (k : ℕ) (x : IssuedCommand) → numbered cs k ≡ Some x → CarriesOwn es x

-- Commands that are there stay; those that are added are an owner's last writes.
pub record Longer (cs ds : List IssuedCommand) : Type 0 where
  pub long : length cs ≤ length ds
  pub same : (k : ℕ) (x : IssuedCommand) → k ≤ length cs → numbered ds k ≡ Some x → numbered cs k ≡ Some x
  pub last : (o : LogOwner) → last_write ds o ≤ length cs → last_write ds o ≡ last_write cs o

longer_self : (cs : List IssuedCommand) → Longer cs cs
longer_self cs = record { long = omega arith; same = λ k x l i. i; last = λ o l. refl }

longer_same : (cs ds : List IssuedCommand) → ds ≡ cs → Longer cs ds
longer_same cs ds q = subst (Longer cs) (sym q) (longer_self cs)

longer_then : (cs ds es : List IssuedCommand) → Longer cs ds → Longer ds es → Longer cs es
longer_then cs ds es a b =
    record {
      long = let p = a.long in let q = b.long in omega (arith, p, q);
      same = λ k x l i. a.same k x l (b.same k x (let p = a.long in omega (arith, p, l)) i);
      last = λ o l. let q : last_write es o ≡ last_write ds o = b.last o (let p = a.long in omega (arith, p, l)) in
          q ∙ a.last o (subst (λ n. n ≤ length cs) q l);
    }

last_own : (o : LogOwner) (n before : ℕ) (cs : List IssuedCommand) (x : IssuedCommand) → ev.carries_for o x x.carries ≡ true →
    ev.last_write_from n before o (cs ++ x ∷ []) ≡ n + length cs
unfolding ev.last_write_from ev.last_write_at
last_own o n before [] x e = ap (λ b. if b then n else before) e ∙ none_more n
last_own o n before (c ∷ cs) x e =
    last_own o (n + 1) (ev.last_write_at o n before c) cs x e ∙ (let z : (n + 1) + length cs ≡ n + suc (length cs) = omega arith in z)

longer_one : (cs : List IssuedCommand) (x : IssuedCommand) → Longer cs (cs ++ x ∷ [])
unfolding last_write
longer_one cs x =
    record {
      long = let q = length_more cs x in omega (arith, q);
      same = λ k y l i. at k y l (numbered_more cs x k y i);
      last = λ o l. go o (ev.carries_for o x x.carries) refl l;
    }
  where
    at : (k : ℕ) (y : IssuedCommand) → k ≤ length cs → (numbered cs k ≡ Some y) ⊎ ((k ≡ suc (length cs)) × (y ≡ x)) → numbered cs k ≡ Some y
    at k y l (inl i) = i
    at k y l (inr i) = absurd (let q = i.0 in omega (arith, l, q))

    go : (o : LogOwner) (b : Bool) → ev.carries_for o x x.carries ≡ b → ev.last_write_from 1 0 o (cs ++ x ∷ []) ≤ length cs →
        ev.last_write_from 1 0 o (cs ++ x ∷ []) ≡ ev.last_write_from 1 0 o cs
    go o true e l = absurd (let q = last_own o 1 0 cs x e in omega (arith, l, q))
    go o false e l = last_more o 1 0 cs x e

-- Cuts are nobody's.
abbrev pub CutsNobody : List LogEntry → Type 0
CutsNobody [] = Unit {0}
CutsNobody (e ∷ es) = (is_change e ≡ false → e.of.client.0 ≡ 0) × CutsNobody es

cuts_last : (es : List LogEntry) (e : LogEntry) → (is_change e ≡ false → e.of.client.0 ≡ 0) → CutsNobody es → CutsNobody (es ++ e ∷ [])
cuts_last [] e n h = (n, tt)
cuts_last (x ∷ es) e n h = (h.0, cuts_last es e n h.1)

cuts_set : (es : List LogEntry) (n : ℕ) (e : LogEntry) (fate : Fate) → slice_get es n ≡ Some e → CutsNobody es →
    CutsNobody (set es n (record e { fate = fate }))
cuts_set [] n e fate q h = tt
cuts_set (x ∷ es) zero e fate q h = (subst (λ (y : LogEntry). is_change y ≡ false → y.of.client.0 ≡ 0) (some_is q) h.0, h.1)
cuts_set (x ∷ es) (suc n) e fate q h = (h.0, cuts_set es n e fate q h.1)

pub cut_at : (es : List LogEntry) (n : ℕ) (e : LogEntry) → CutsNobody es → slice_get es n ≡ Some e → is_change e ≡ false → e.of.client.0 ≡ 0
cut_at [] n e h q c = cc
cut_at (x ∷ es) zero e h q c = subst (λ (y : LogEntry). is_change y ≡ false → y.of.client.0 ≡ 0) (some_is q) h.0 c
cut_at (x ∷ es) (suc n) e h q c = cut_at es n e h.1 q c

-- Lines keep whose the entries are, and add no cut of a client.
pub owners_set : (es : List LogEntry) (n : ℕ) (e : LogEntry) (fate : Fate) → slice_get es n ≡ Some e →
    map of_entry (set es n (record e { fate = fate })) ≡ map of_entry es
owners_set [] n e fate q = refl
owners_set (x ∷ es) zero e fate q = ap (λ (y : LogEntry). y.of ∷ map of_entry es) (sym (some_is q))
owners_set (x ∷ es) (suc n) e fate q = ap (λ os. x.of ∷ os) (owners_set es n e fate q)

record Kept (es fs : List LogEntry) : Type 0 where
  owners : (i : ℕ) (o : LogOwner) → owner_at es i ≡ Some o → owner_at fs i ≡ Some o
  cuts : CutsNobody es → CutsNobody fs

kept_self : (es : List LogEntry) → Kept es es
kept_self es = record { owners = λ i o h. h; cuts = λ h. h }

kept_more : (es : List LogEntry) (e : LogEntry) → (is_change e ≡ false → e.of.client.0 ≡ 0) → Kept es (es ++ e ∷ [])
kept_more es e n = record { owners = owner_more es e; cuts = cuts_last es e n }

kept_fated : (es : List LogEntry) (index : ℕ) (fate : Fate) → Kept es (lines.fated es index fate)
kept_fated es zero fate = kept_self es
kept_fated es (suc n) fate = go (slice_get es n) refl
  where
    go : (o : Option LogEntry) → slice_get es n ≡ o → Kept es (lines.with_fate (suc n) fate o es)
    go None q = kept_self es
    go (Some e) q =
        record {
          owners = λ i o h. owner_same es (set es n (record e { fate = fate })) i (owners_set es n e fate q) ∙ h;
          cuts = cuts_set es n e fate q;
        }

kept_line : (v : World) (es : List LogEntry) (x : Observation) → Kept es (lines.log_behind v es x)
unfolding lines.log_behind log.accept log.patch log.cut
kept_line v es (seen.Wrote i c f p bytes) = kept_more es (log.pending (log.owner c (ev.present_life v c f.server) f p) (changes.Write bytes)) (λ q. cc q)
kept_line v es (seen.Patched i c f p at bytes) = kept_more es (log.pending (log.owner c (ev.present_life v c f.server) f p) (changes.Patch at bytes))
    (λ q. cc q)
kept_line v es (seen.CutAt i f p) = kept_more es (log.hard_cut f p) (λ q. refl)
kept_line v es (seen.Hardened i) = kept_fated es i fates.Hard
kept_line v es (seen.Dropped i cause) = kept_fated es i (fates.Gone cause)
kept_line v es (seen.Sent k m) = kept_self es
kept_line v es (seen.Submitted k c number what) = kept_self es
kept_line v es (seen.Answered c op answer) = kept_self es
kept_line v es (seen.Leased c s end) = kept_self es
kept_line v es (seen.Lost c s life) = kept_self es
kept_line v es (seen.Suspected s c start) = kept_self es
kept_line v es (seen.Stolen s c life) = kept_self es

kept_lines : (v : World) (es : List LogEntry) (xs : List Observation) → Kept es (lines.log_told v es xs)
unfolding lines.log_told
kept_lines v es [] = kept_self es
kept_lines v es (x ∷ xs) =
    let a = kept_line v es x in
    let b = kept_lines v (lines.log_behind v es x) xs in
    record { owners = λ i o h. b.owners i o (a.owners i o h); cuts = λ h. b.cuts (a.cuts h) }

-- A command that a client has just submitted.
pub record IsFresh (c : ClientId) (site : WorldClient) (x : IssuedCommand) (d : DiskCommand) : Type 0 where
  pub client : x.client ≡ c
  pub life : x.life ≡ life_with site.node.state x.server
  pub report : d.report ≡ reports.Open
  pub effect : d.effected ≡ false

abbrev pub IsAt : World → ℕ → IssuedCommand → DiskCommand → Type 0
IsAt w k x d = (numbered w.commands k ≡ Some x) × (disks.command_at w.disks.commands k ≡ Some d)

-- What outputs leave: the clients and the clocks, and as many more commands as are issued to the disks.
pub record Says (c : ClientId) (site : WorldClient) (v u : World) : Type 0 where
  pub more : ℕ
  pub commands : length u.commands ≡ length v.commands + more
  pub disks_too : length u.disks.commands ≡ length v.disks.commands + more
  pub clocks : u.clocks ≡ v.clocks
  pub clients : u.clients ≡ v.clients
  pub longer : Longer v.commands u.commands
  pub from : length v.commands ≡ length v.disks.commands → (k : ℕ) (x : IssuedCommand) (d : DiskCommand) → IsAt u k x d → IsAt v k x d ⊎ IsFresh c site x d

one_more : (n m : ℕ) → n ≡ suc m → n ≡ m + 1
one_more n m e = omega (arith, e)

says_nothing : (c : ClientId) (site : WorldClient) (v u : World) → u.commands ≡ v.commands → u.disks.commands ≡ v.disks.commands → u.clocks ≡ v.clocks →
    u.clients ≡ v.clients →
    Says c site v u
says_nothing c site v u cs ds ts ss =
    record {
      more = 0;
      commands = ap (λ (xs : List IssuedCommand). length xs) cs ∙ none_more (length v.commands);
      disks_too = ap (λ (xs : List DiskCommand). length xs) ds ∙ none_more (length v.disks.commands);
      clocks = ts;
      clients = ss;
      longer = longer_same v.commands u.commands cs;
      from = λ n k x d i. inl (ap (λ xs. numbered xs k) (sym cs) ∙ i.0, ap (λ xs. disks.command_at xs k) (sym ds) ∙ i.1);
    }

says_one : (c : ClientId) (before : ClientState) (site : WorldClient) (o : Output) (sc : WorldTurn) → site_of sc.world c ≡ Some site →
    Says c site sc.world (ev.client_says sc c before o).world
unfolding ev.client_says ev.client_notes ev.sends ev.submits ev.answers_with ev.accepts ev.patches ev.loses
says_one c before site (outputs.Send m) sc own = says_nothing c site sc.world _ refl refl refl refl
says_one c before site (outputs.Answer op a) sc own = says_nothing c site sc.world _ refl refl refl refl
says_one c before site (outputs.Submit number at what) sc own = go (site_of sc.world c) own
  where
    go : (o : Option WorldClient) → o ≡ Some site → Says c site sc.world (ev.submits sc c o number at what).world
    go None e = cc
    go (Some s) e =
        record {
          more = 1;
          commands = one_more _ _ (length_more sc.world.commands y);
          disks_too = one_more _ _ (length_more sc.world.disks.commands (disks.new_command what));
          clocks = refl;
          clients = refl;
          longer = longer_one sc.world.commands y;
          from = λ n k x d i. new k x d (at_more sc.world.commands sc.world.disks.commands y x (disks.new_command what) d k n i.0 i.1);
        }
      where
        y : IssuedCommand
        y = ev.issued sc.world c s number at what

        new : (k : ℕ) (x : IssuedCommand) (d : DiskCommand) → IsAt sc.world k x d ⊎ ((x ≡ y) × (d ≡ disks.new_command what)) →
            IsAt sc.world k x d ⊎ IsFresh c site x d
        new k x d (inl i) = inl i
        new k x d (inr (q, r)) =
            inr
            (record {
              client = ap (λ (z : IssuedCommand). z.client) q;
              life = ap (λ (z : IssuedCommand). z.life) q ∙
                  (ap (λ (z : WorldClient). life_with z.node.state y.server) (some_is e) ∙
                  ap (λ (z : IssuedCommand). life_with site.node.state z.server) (sym q));
              report = ap (λ (z : DiskCommand). z.report) r;
              effect = ap (λ (z : DiskCommand). z.effected) r;
            })
says_one c before site (outputs.Note n) sc own = note n
  where
    note : (n : Note) → Says c site sc.world (ev.client_notes sc c before n).world
    note (notes.Accepted f p bytes) = says_nothing c site sc.world _ refl refl refl refl
    note (notes.Patched f p at bytes) = says_nothing c site sc.world _ refl refl refl refl
    note (notes.Lost s life) = says_nothing c site sc.world _ refl refl refl refl
    note n = says_nothing c site sc.world _ refl refl refl refl

add_more : (a b x m n : ℕ) → a ≡ x + m → b ≡ a + n → b ≡ x + (m + n)
add_more a b x m n p q = omega (arith, p, q)

same_more : (a b x y m : ℕ) → a ≡ x + m → b ≡ y + m → x ≡ y → a ≡ b
same_more a b x y m p q e = omega (arith, p, q, e)

says_then : (c : ClientId) (site : WorldClient) (v u z : World) → Says c site v u → Says c site u z → Says c site v z
says_then c site v u z a b =
    record {
      more = a.more + b.more;
      commands = add_more (length u.commands) (length z.commands) (length v.commands) a.more b.more a.commands b.commands;
      disks_too = add_more (length u.disks.commands) (length z.disks.commands) (length v.disks.commands) a.more b.more a.disks_too b.disks_too;
      clocks = b.clocks ∙ a.clocks;
      clients = b.clients ∙ a.clients;
      longer = longer_then v.commands u.commands z.commands a.longer b.longer;
      from = λ n k x d i. go n k x d
          (b.from (same_more (length u.commands) (length u.disks.commands) (length v.commands) (length v.disks.commands) a.more a.commands a.disks_too n) k x d
          i);
    }
  where
    go : length v.commands ≡ length v.disks.commands → (k : ℕ) (x : IssuedCommand) (d : DiskCommand) → IsAt u k x d ⊎ IsFresh c site x d →
        IsAt v k x d ⊎ IsFresh c site x d
    go n k x d (inl i) = a.from n k x d i
    go n k x d (inr f) = inr f

pub says_all : (c : ClientId) (before : ClientState) (site : WorldClient) (os : List Output) (sc : WorldTurn) → site_of sc.world c ≡ Some site →
    Says c site sc.world (ev.client_says_all c before os sc).world
unfolding ev.client_says_all
says_all c before site [] sc own = says_nothing c site sc.world sc.world refl refl refl refl
says_all c before site (o ∷ os) sc own =
    let one = says_one c before site o sc own in
    let u : WorldTurn = ev.client_says sc c before o in
    says_then c site sc.world u.world _ one (says_all c before site os u (ap (λ xs. numbered xs c.0) one.clients ∙ own))

disk_there : (cs : List IssuedCommand) (ds : List DiskCommand) → length cs ≡ length ds → (k : ℕ) (x : IssuedCommand) → numbered cs k ≡ Some x →
    (d : DiskCommand) × (disks.command_at ds k ≡ Some d)
disk_there cs ds n zero x i = cc
disk_there cs ds n (suc k) x i = get_there ds k (let b = get_below cs k x i in omega (arith, b, n))

pub less_more : (a b x y m : ℕ) → a ≡ x + m → b ≡ y + m → a ≡ b → x ≡ y
less_more a b x y m p q e = omega (arith, p, q, e)

-- A step of a client.
module _ (w : World) (c : ClientId) (old site : WorldClient) (input : ClientInput) (there : site_of w c ≡ Some old) (same : old.node ≡ site.node)
    (starts : old.starts ≡ site.starts)
    (runs : site.node.running ≡ true) (h : LivesHold w) where
  abbrev now : Stamp
  now = clock_of w (nodes.Client c)

  abbrev turn : cl.NodeTurn
  turn = cl.node_turn site.node (cl.client_step site.node.state now input)

  abbrev after : WorldClient
  after = ev.at_node turn.node site

  abbrev sc : WorldTurn
  sc = ev.quiet (ev.with_site c after w)

  abbrev u : World
  u = (ev.client_says_all c site.node.state turn.out sc).world

  abbrev v : World
  v = ev.flushes c turn.node.state (world.all_servers u) u

  own : site_of sc.world c ≡ Some after
  own = numbered_own w.clients c.0 after old there

  said : Says c after sc.world u
  said = says_all c site.node.state after turn.out sc own

  fl : Flushed u v
  fl = flush_parts c turn.node.state (world.all_servers u) u

  own_after : site_of v c ≡ Some after
  own_after = ap (λ xs. numbered xs c.0) (fl.clients ∙ said.clients) ∙ own

  clock_after : clock_in v.clocks c ≡ now
  clock_after = ap (λ ts. clock_in ts c) (fl.clocks ∙ said.clocks)

  config : turn.node.state.config ≡ site.node.state.config
  config = sym (steps_so w c old site input there same h).config ∙ ap (λ (n : cl.ClientNode). n.state.config) same

  going : (a : Association) → Has a turn.node.state.associations → is_ended site.node.state.config now a.session ≡ false
  unfolding cl.client_step
  going a i = (step_flushed [] w c old site input now there same starts h a i).going

  -- the lease of its present life is not over
  module _ (s : ServerId) (l : Life) (lv : LivesHold v) (present : l ≡ life_with turn.node.state s) where
    n : NodeHolds v.config v.clocks v.ended c after.node
    n = lv.lives.sites c after own_after

    not_ended : (x : LeaseLife) → world.ended_of v c s l ≡ Some x → (o : Option Association) → find (is_at s) turn.node.state.associations ≡ o → ⊥
    not_ended x q None f =
        let r = row_is c s l v.ended x q in
        let b = (lv.lives.ends x r.0).born in
        let k : x.life.0 ≡ l.0 = ap (λ (y : Life). y.0) r.3 in
        let m : l.0 ≡ 0 = ap (λ (y : Life). y.0) present ∙ ap (λ o. (world.life_at o).0) f in omega (arith, b, k, m)
    not_ended x q (Some a) f =
        let r = row_is c s l v.ended x q in
        let b = (n.below x r.0 r.1 a (ap (λ z. find (is_at z) turn.node.state.associations) r.2 ∙ f)).below runs in
        let k : x.life.0 ≡ l.0 = ap (λ (y : Life). y.0) r.3 in
        let m : l.0 ≡ a.life.0 = ap (λ (y : Life). y.0) present ∙ ap (λ o. (world.life_at o).0) f in omega (arith, b, k, m)

    abbrev late : Option Stamp → Type 0
    late end = adm.late_at (clock_in v.clocks c) end ≡ None

    lasts : (a : Association) → Has a turn.node.state.associations → (x : Option ClientSession) → a.session ≡ x →
        late (lease.end_at turn.node.state.config (option_map cl.lease_of_session x))
    unfolding adm.stands
    lasts a i None q = refl
    lasts a i (Some x) q =
        ap (λ b. adm.stands b (refusals.LateDisk (clock_in v.clocks c) (lease.end_of turn.node.state.config x.lease)))
        (ap (λ k. nat_le (lease.end_of k x.lease).0 (clock_in v.clocks c).0) config
        ∙ (ap (λ (t : Stamp). nat_le (lease.end_of site.node.state.config x.lease).0 t.0) clock_after
        ∙ (ap (is_ended site.node.state.config now) (sym q) ∙ going a i)))

    by_place : (o : Option Association) → find (is_at s) turn.node.state.associations ≡ o → late (lease.end_at turn.node.state.config (cl.lease_at o))
    by_place None f = refl
    by_place (Some a) f = lasts a (found_at (is_at s) turn.node.state.associations a f).1 a.session refl

    by_life : (o : Option LeaseLife) → world.ended_of v c s l ≡ o → late (world.end_or_present v c s o)
    by_life (Some x) q = absurd (not_ended x q (find (is_at s) turn.node.state.associations) refl)
    by_life None q =
        ap (λ o. adm.late_at (clock_in v.clocks c) (world.present_end v s o)) own_after
        ∙ by_place (find (is_at s) turn.node.state.associations) refl

    not_late : late (world.lease_end_of v c s l)
    not_late = by_life (world.ended_of v c s l) refl

  -- so what it carries is its own
  owned : LivesHold v → PagesHold v → (k : ℕ) (x : IssuedCommand) (d : DiskCommand) → IsAt v k x d → IsFresh c after x d → CarriesOwn v.log x
  owned lv p k x d i f y q = by d.what refl
    where
      timely : Timely v k x
      timely = ap (λ z. adm.late_at (clock_in v.clocks z) (world.lease_end_of v z x.server x.life)) f.client ∙ not_late x.server x.life lv f.life

      no : ◌≡◌ {A = Option Carried} None (Some y) → ⊥
      no z = cc

      by : (what : Command) → d.what ≡ what → IsOwn v.log x y
      by (commands.Read at) e = absurd (no (sym (p.commands.reads k x d at i.0 i.1 e) ∙ q))
      by (commands.Write at tag bytes) e =
          let r = p.pages.carry k x at tag bytes
          (record { issued = i.0; command = d; is = i.1; what = e; unreported = f.report; fresh = f.effect; timely = timely }) in
          subst (IsOwn v.log x) (some_is (sym r.carries ∙ q)) (r.of, sym r.server)

  longer_own : Longer w.commands v.commands
  longer_own = longer_then w.commands u.commands v.commands said.longer (longer_same u.commands v.commands fl.commands)

  new_owned : LivesHold v → PagesHold v → (k : ℕ) (x : IssuedCommand) → numbered v.commands k ≡ Some x → (numbered w.commands k ≡ Some x) ⊎ CarriesOwn v.log x
  new_owned lv p k x i = go (disk_there v.commands v.disks.commands p.commands.counts k x i)
    where
      counts : length u.commands ≡ length u.disks.commands
      counts = ap (λ (xs : List IssuedCommand). length xs) (sym fl.commands)
          ∙ (p.commands.counts ∙ ap (λ (ds : disks.Disks). length ds.commands) (flushes_disks c turn.node.state (world.all_servers u) u))

      go : (d : DiskCommand) × (disks.command_at v.disks.commands k ≡ Some d) → (numbered w.commands k ≡ Some x) ⊎ CarriesOwn v.log x
      go (d, j) =
          at (said.from
          (less_more (length u.commands) (length u.disks.commands) (length w.commands) (length w.disks.commands) said.more said.commands said.disks_too counts)
          k x d (
            ap (λ xs. numbered xs k) (sym fl.commands) ∙
                i,
            ap (λ (ds : disks.Disks). disks.command_at ds.commands k) (sym (flushes_disks c turn.node.state (world.all_servers u) u)) ∙ j,
          ))
        where
          at : IsAt w k x d ⊎ IsFresh c after x d → (numbered w.commands k ≡ Some x) ⊎ CarriesOwn v.log x
          at (inl o) = inl o.0
          at (inr f) = inr (owned lv p k x d (i, j) f)

-- Every event.
module _ (t : World) (l : LivesHold t) where
  w : World
  w = ev.counted t

  abbrev R : WorldTurn → Type 0
  R sc =
      Longer t.commands sc.world.commands
      × (LivesHold sc.world → PagesHold sc.world → (k : ℕ) (x : IssuedCommand) → numbered sc.world.commands k ≡ Some x →
      (numbered t.commands k ≡ Some x) ⊎ CarriesOwn sc.world.log x)

  nothing : (sc : WorldTurn) → sc.world.commands ≡ t.commands → R sc
  nothing sc q = (longer_same t.commands sc.world.commands q, λ lv p k x i. inl (ap (λ xs. numbered xs k) (sym q) ∙ i))

  takes : (y : World) → y.commands ≡ t.commands → LivesHold y → (c : ClientId) (i : ClientInput) (old site : WorldClient) → site_of y c ≡ Some old →
      old.node ≡ site.node →
      old.starts ≡ site.starts → R (ev.client_takes y c i site)
  unfolding ev.client_takes ev.client_took cl.node_step
  takes y q ly c i old site there same starts = go site.node.running refl
    where
      u : cl.NodeTurn
      u = cl.node_turn site.node (cl.client_step site.node.state (clock_of y (nodes.Client c)) i)

      old_or : (es : List LogEntry) (k : ℕ) (x : IssuedCommand) → (numbered y.commands k ≡ Some x) ⊎ CarriesOwn es x →
          (numbered t.commands k ≡ Some x) ⊎ CarriesOwn es x
      old_or es k x (inl j) = inl (ap (λ xs. numbered xs k) (sym q) ∙ j)
      old_or es k x (inr f) = inr f

      go : (b : Bool) → site.node.running ≡ b → R (ev.client_took y c site (if b then Ok u else Err Crashed))
      go true r = (
        subst (λ cs. Longer cs (v y c old site i there same starts r ly).commands) q (longer_own y c old site i there same starts r ly),
        λ lv p k x j. old_or _ k x (new_owned y c old site i there same starts r ly lv p k x j),
      )
      go false r = nothing (ev.quiet y) q

  counted_lives : LivesHold w
  unfolding w
  counted_lives = record { lives = l.lives; known = l.known }

  by_client : (c : ClientId) (i : ClientInput) (o : Option WorldClient) → site_of t c ≡ o → R (ev.at_client w c i o)
  unfolding ev.at_client w
  by_client c i None e = nothing (ev.quiet w) refl
  by_client c i (Some site) e = takes w refl counted_lives c i site site e refl refl

  server_note : (s : ServerId) (n : Note) (sc : WorldTurn) → (ev.server_notes sc s n).world.commands ≡ sc.world.commands
  unfolding ev.server_notes ev.cuts
  server_note s (notes.Suspected c x) sc = refl
  server_note s (notes.Stolen c life) sc = refl
  server_note s (notes.CutDone f p) sc = refl
  server_note s n sc = refl

  server_one : (s : ServerId) (x : Output) (sc : WorldTurn) → (ev.server_says sc s x).world.commands ≡ sc.world.commands
  unfolding ev.server_says ev.sends
  server_one s (outputs.Send m) sc = refl
  server_one s (outputs.Note n) sc = server_note s n sc
  server_one s x sc = refl

  server_all : (s : ServerId) (os : List Output) (sc : WorldTurn) → (ev.server_says_all s os sc).world.commands ≡ sc.world.commands
  unfolding ev.server_says_all
  server_all s [] sc = refl
  server_all s (x ∷ os) sc = server_all s os (ev.server_says sc s x) ∙ server_one s x sc

  by_server : (s : ServerId) (i : ServerInput) (o : Option ServerNode) → R (ev.at_server w s i o)
  unfolding ev.at_server ev.server_takes ev.server_took w
  by_server s i None = nothing (ev.quiet w) refl
  by_server s i (Some node) = go (server.node_step node (clock_of w (nodes.Server s)) i)
    where
      go : (r : Result server.NodeTurn StepRefusal) → R (ev.server_took w s r)
      go (Err x) = nothing (ev.quiet w) refl
      go (Ok u) = nothing (ev.server_says_all s u.out (ev.quiet (ev.with_node s u.node w))) (server_all s u.out (ev.quiet (ev.with_node s u.node w)))

  asks : (c : ClientId) (ask : Ask) (o : Option WorldClient) → site_of t c ≡ o → R (ev.asks_at w c ask o)
  unfolding ev.asks_at w
  asks c ask None e = nothing (ev.quiet w) refl
  asks c ask (Some site) e = takes w refl counted_lives c _ site (ev.asked_once_more site) e refl refl

  delivered : (o : Option SentMessage) → R (ev.delivers w o)
  unfolding ev.delivers ev.delivers_to w
  delivered None = nothing (ev.quiet w) refl
  delivered (Some m) = to (world.receiver_of m)
    where
      to : (r : NodeId) → R (ev.delivers_to w m.message r)
      to (nodes.Client c) = by_client c _ (site_of t c) refl
      to (nodes.Server s) = by_server s _ (node_of t s)

  reported : (k : ℕ) (ok : Bool) → R (ev.reports_of w k ok)
  unfolding ev.reports_of ev.tells ev.tells_client ev.tells_site w
  reported k ok = go (issued_of t k)
    where
      y : World
      y = ev.with_disks (ev.disks_after w.disks (disks.done w.disks k ok)) w

      same : (x : IssuedCommand) (site : WorldClient) → site_of t x.client ≡ Some site → (b : Bool) →
          R (if b then ev.client_takes y x.client (ev.end_told y k ok x) site else ev.quiet y)
      same x site e true = takes y refl (record { lives = l.lives; known = l.known }) x.client (ev.end_told y k ok x) site site e refl refl
      same x site e false = nothing (ev.quiet y) refl

      at : (x : IssuedCommand) (o : Option WorldClient) → site_of t x.client ≡ o → R (ev.tells_client y k ok x o)
      at x None e = nothing (ev.quiet y) refl
      at x (Some site) e = same x site e (ev.is_same_instance x site)

      go : (o : Option IssuedCommand) → R (ev.tells y k ok o)
      go None = nothing (ev.quiet y) refl
      go (Some x) = at x (site_of t x.client) refl

  crashes : (c : ClientId) (o : Option WorldClient) → R (ev.crashes_client w c o)
  unfolding ev.crashes_client ev.marks w
  crashes c None = nothing (ev.quiet w) refl
  crashes c (Some site) = nothing (ev.crashes_client w c (Some site)) refl

  starts : (c : ClientId) (o : Option WorldClient) → R (ev.quiet (ev.starts_client w c o))
  unfolding ev.starts_client w
  starts c None = nothing (ev.quiet w) refl
  starts c (Some site) = nothing (ev.quiet (ev.with_site c (ev.started_site site) w)) refl

  crashes_server : (s : ServerId) (o : Option ServerNode) → R (ev.quiet (ev.crashes_server w s o))
  unfolding ev.crashes_server w
  crashes_server s None = nothing (ev.quiet w) refl
  crashes_server s (Some node) = nothing (ev.quiet (ev.with_node s (server.crash_node node) w)) refl

  starts_server : (s : ServerId) (o : Option ServerNode) → R (ev.quiet (ev.starts_server w s o))
  unfolding ev.starts_server w
  starts_server s None = nothing (ev.quiet w) refl
  starts_server s (Some node) = nothing (ev.quiet (ev.with_node s (server.start_node node (clock_of w (nodes.Server s))) w)) refl

  loses : (k : ℕ) (o : Option SentMessage) → R (ev.quiet (ev.loses_message w k o))
  unfolding ev.loses_message w
  loses k None = nothing (ev.quiet w) refl
  loses k (Some m) = nothing (ev.quiet (ev.with_lost k m w)) refl

  happens : (e : Event) → R (ev.happens w e)
  unfolding ev.happens ev.ticks ev.crashes ev.starts ev.advances ev.effects ev.marks w
  happens (events.Tick (nodes.Client c)) = by_client c _ (site_of t c) refl
  happens (events.Tick (nodes.Server s)) = by_server s _ (node_of t s)
  happens (events.App c ask) = asks c ask (site_of t c) refl
  happens (events.Deliver k) = delivered (message_of t k)
  happens (events.Lose k) = loses k (message_of t k)
  happens (events.Cut from to) = nothing (ev.quiet (ev.with_cut from to w)) refl
  happens (events.Heal from to) = nothing (ev.quiet (ev.without_cut from to w)) refl
  happens (events.Advance increments) = nothing (ev.advances w increments) refl
  happens (events.Effect k) = nothing (ev.effects w k) refl
  happens (events.Report k ok) = reported k ok
  happens (events.Crash (nodes.Client c)) = crashes c (site_of t c)
  happens (events.Crash (nodes.Server s)) = crashes_server s (node_of t s)
  happens (events.Start (nodes.Client c)) = starts c (site_of t c)
  happens (events.Start (nodes.Server s)) = starts_server s (node_of t s)

  pub event_owned : (e : Event) (sc : WorldTurn) → world_step t e ≡ Ok sc → R sc
  unfolding w
  event_owned e sc f = subst R (sym (step_happens t e sc f).1) (happens e)

-- What holds of a world, and that an event keeps it.
pub record EntriesCarried (w : World) : Type 0 where
  pub owned : AllCarryOwn w.log w.commands
  pub cuts : CutsNobody w.log

pub entries_kept : (t : World) (e : Event) (sc : WorldTurn) → world_step t e ≡ Ok sc → lines.IsLogTold sc.world t.log sc.seen → LivesHold t →
    LivesHold sc.world → PagesHold sc.world →
    EntriesCarried t → EntriesCarried sc.world
entries_kept t e sc f told l lv p h =
    record {
      owned = λ k x i. go k x ((event_owned t l e sc f).1 lv p k x i);
      cuts = k.cuts h.cuts;
    }
  where
    k : Kept t.log sc.world.log
    k = subst (Kept t.log) told.entries (kept_lines sc.world t.log sc.seen)

    go : (n : ℕ) (x : IssuedCommand) → (numbered t.commands n ≡ Some x) ⊎ CarriesOwn sc.world.log x → CarriesOwn sc.world.log x
    go n x (inl i) = λ y q. (k.owners y.index (world.owner_carried x y) (h.owned n x i y q).0, (h.owned n x i y q).1)
    go n x (inr o) = o
