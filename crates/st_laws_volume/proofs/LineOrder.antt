-- The lines of an event: as a client is answered `written`, no open ask must take effect before the one that is answered.
use Rattle.st_lemmas.proofs.Words
use Words.{◌≡◌, ◌⊎◌, ℕ, ◌+◌, ◌<◌, ◌≤◌, ◌==◌, arith, Bool, true, false, List, [], ◌∷◌, ◌++◌, Option, Some, None, Ok, Err, refl, sym, ap, ◌∙◌, subst, inl, inr, if◌then◌else◌}
use Words.{append-nil, append_assoc, eq-eqb, eqb-true, filter, flat_map, list_all, map, AppAnswer, Ask, BlockAt, ClientId, Command, Event, Fate, LogEntry, Message, NodeId, Note}
use Words.{Observation, Output, IssuedCommand, SentMessage, ServerId}
use Words.events
use Words.fates
use Words.inputs
use Words.nodes
use Words.notes
use Words.outputs
use Words.seen
use Words.Client as cl
use Words.ClientState.{ClientState, ClientTurn}
use Words.Disks as disks
use Words.Events as ev
use Words.Events.{WorldTurn, world_step}
use Words.Lists.{Has}
use Words.Lookups.{if_false, if_true, some_is}
use Words.Tables.{has_append, has_filter}
use Words.Truth.{clash}
use Words.World as world
use Words.World.{World, WorldClient, clock_of, issued_of, message_of, receiver_of, site_of}
use Rattle.st_rules.specs.declared.client.ClientInput.{ClientInput}
use Rattle.st_rules.specs.declared.node.StepRefusal.TheVariants.{Crashed}
use Rattle.st_lemmas.proofs.Steps.{step_happens}
use Rattle.st_laws_pages.proofs.Asks.Asks.{Apart}
use Rattle.st_laws_pages.proofs.Asks.Client.{key}
use Rattle.st_laws_reads.specs.Copies.World.{Taking, asking, now_at, receiving, receiving_of, taken, taking, told_at, told_of}
use Rattle.st_laws_reads.proofs.AllClients.Takings.{Takes, takes_event}
use Rattle.st_laws_reads.proofs.AllClients.Untaken.{others}
use Rattle.st_laws_volume.specs.Asks.{AsksOf, at_site}
use Rattle.st_laws_volume.specs.Seen.{of_event, of_line}
use Rattle.st_laws_volume.proofs.AskClient.{closed_all, closed_by, coming}
use Rattle.st_laws_volume.proofs.AskEvents.{Dull, IsCounted, Line, all_counted, closes, lined, own_one, report_dull}
use Rattle.st_laws_volume.proofs.AskSteps.{asked_once, asks_as, told_all, told_both, told_by, without_ask}
use Rattle.st_laws_volume.proofs.WriteOrder.{AnswerInOrder, Comes, InOrder, Mounts, OneInOrder, mounts_last, step_in_order}
use Rattle.st_volume.specs.declared.step.VolumeStep.{VolumeStep}
use Rattle.st_volume.specs.declared.step.VolumeStep.TheVariants as steps

abbrev pub LineInOrder : ClientId → Observation → AsksOf → Type 0
LineInOrder c (seen.Answered d op answer) a = (d.0 == c.0) ≡ true → AnswerInOrder op answer a.pending
LineInOrder c o a = Unit {0}

abbrev pub AllInOrder : World → ClientId → List Observation → AsksOf → Type 0
AllInOrder w c [] a = Unit {0}
AllInOrder w c (o ∷ os) a = LineInOrder c o a × AllInOrder w c os (told_all c (of_line w o) a)

order_more : (w : World) (c : ClientId) (os : List Observation) (o : Observation) (a : AsksOf) → AllInOrder w c os a → LineInOrder c o (lined w c os a) →
    AllInOrder w c (os ++ o ∷ []) a
order_more w c [] o a h k = (k, tt)
order_more w c (x ∷ os) o a h k =
    (h.0, order_more w c os o (told_all c (of_line w x) a) h.1 (subst (λ z. LineInOrder c o z) (told_both c (of_line w x) (flat_map (of_line w) os) a) k))

line_order : (c : ClientId) (o : Observation) (a : AsksOf) → Line o → LineInOrder c o a
line_order c (seen.Answered d op answer) a l = absurd l
line_order c o a l = tt

one_order : (w : World) (c : ClientId) (os : List Observation) (o : Observation) (a : AsksOf) → Line o → AllInOrder w c os a → AllInOrder w c (os ++ o ∷ []) a
one_order w c os o a l h = order_more w c os o a h (line_order c o (lined w c os a) l)

note_order : (w : World) (c d : ClientId) (before : ClientState) (n : Note) (sc : WorldTurn) (a : AsksOf) → AllInOrder w d sc.seen a →
    AllInOrder w d (ev.client_notes sc c before n).seen a
unfolding ev.client_notes ev.accepts ev.patches ev.loses
note_order w c d before (notes.Leased s end) sc a h = one_order w d sc.seen _ a tt h
note_order w c d before (notes.Lost s life) sc a h = one_order w d sc.seen _ a tt h
note_order w c d before (notes.Accepted f p bytes) sc a h = one_order w d sc.seen _ a tt h
note_order w c d before (notes.Patched f p at bytes) sc a h = one_order w d sc.seen _ a tt h
note_order w c d before n sc a h = h

submit_order : (w : World) (c d : ClientId) (o : Option WorldClient) (number : ℕ) (at : BlockAt) (what : Command) (sc : WorldTurn) (a : AsksOf) →
    AllInOrder w d sc.seen a → AllInOrder w d (ev.submits sc c o number at what).seen a
unfolding ev.submits
submit_order w c d None number at what sc a h = h
submit_order w c d (Some site) number at what sc a h = one_order w d sc.seen _ a tt h

-- Outputs of a client: of its own asks, and of those of others.
own_order_one : (w : World) (c : ClientId) (before : ClientState) (o : Output) (sc : WorldTurn) (a : AsksOf) → OneInOrder o (lined w c sc.seen a).pending →
    AllInOrder w c sc.seen a → AllInOrder w c (ev.client_says sc c before o).seen a
unfolding ev.client_says ev.sends ev.answers_with
own_order_one w c before (outputs.Send m) sc a k h = one_order w c sc.seen _ a tt h
own_order_one w c before (outputs.Submit number at what) sc a k h = submit_order w c c (site_of sc.world c) number at what sc a h
own_order_one w c before (outputs.Answer op answer) sc a k h = order_more w c sc.seen _ a h (λ q. k)
own_order_one w c before (outputs.Note n) sc a k h = note_order w c c before n sc a h

own_order : (w : World) (c : ClientId) (before : ClientState) (os : List Output) (sc : WorldTurn) (a : AsksOf) → InOrder os (lined w c sc.seen a).pending →
    AllInOrder w c sc.seen a → AllInOrder w c (ev.client_says_all c before os sc).seen a
unfolding ev.client_says_all
own_order w c before [] sc a k h = h
own_order w c before (o ∷ os) sc a k h =
    own_order w c before os (ev.client_says sc c before o) a
    (subst (InOrder os) (sym (ap (λ (z : AsksOf). z.pending) (own_one w c before o sc a))) k.1)
    (own_order_one w c before o sc a k.0 h)

other_order_one : (w : World) (c d : ClientId) (before : ClientState) (o : Output) (sc : WorldTurn) (a : AsksOf) → (c.0 == d.0) ≡ false →
    AllInOrder w d sc.seen a → AllInOrder w d (ev.client_says sc c before o).seen a
unfolding ev.client_says ev.sends ev.answers_with
other_order_one w c d before (outputs.Send m) sc a q h = one_order w d sc.seen _ a tt h
other_order_one w c d before (outputs.Submit number at what) sc a q h = submit_order w c d (site_of sc.world c) number at what sc a h
other_order_one w c d before (outputs.Answer op answer) sc a q h = order_more w d sc.seen _ a h (λ e. clash e q)
other_order_one w c d before (outputs.Note n) sc a q h = note_order w c d before n sc a h

other_order : (w : World) (c d : ClientId) (before : ClientState) (os : List Output) (sc : WorldTurn) (a : AsksOf) → (c.0 == d.0) ≡ false →
    AllInOrder w d sc.seen a → AllInOrder w d (ev.client_says_all c before os sc).seen a
unfolding ev.client_says_all
other_order w c d before [] sc a q h = h
other_order w c d before (o ∷ os) sc a q h = other_order w c d before os (ev.client_says sc c before o) a q (other_order_one w c d before o sc a q h)

-- Outputs of a server, and fates, for all clients.
abbrev Everyone : World → List Observation → Type 0
Everyone w os = (c : ClientId) (a : AsksOf) → AllInOrder w c os a

server_order_one : (w : World) (s : ServerId) (o : Output) (sc : WorldTurn) → Everyone w sc.seen → Everyone w (ev.server_says sc s o).seen
unfolding ev.server_says ev.sends ev.server_notes ev.cuts
server_order_one w s (outputs.Send m) sc h = λ c a. one_order w c sc.seen _ a tt (h c a)
server_order_one w s (outputs.Note n) sc h = note n
  where
    note : (n : Note) → Everyone w (ev.server_notes sc s n).seen
    note (notes.Suspected d t) = λ c a. one_order w c sc.seen _ a tt (h c a)
    note (notes.Stolen d life) = λ c a. one_order w c sc.seen _ a tt (h c a)
    note (notes.CutDone f p) = λ c a. one_order w c sc.seen _ a tt (h c a)
    note n = h
server_order_one w s o sc h = h

server_order : (w : World) (s : ServerId) (os : List Output) (sc : WorldTurn) → Everyone w sc.seen → Everyone w (ev.server_says_all s os sc).seen
unfolding ev.server_says_all
server_order w s [] sc h = h
server_order w s (o ∷ os) sc h = server_order w s os (ev.server_says sc s o) (server_order_one w s o sc h)

fates_order : (w : World) (n : ℕ) (es fs : List LogEntry) → Everyone w (ev.fates_from n es fs)
unfolding ev.fates_from of_line
fates_order w n [] fs = λ c a. tt
fates_order w n (e ∷ es) [] = λ c a. tt
fates_order w n (e ∷ es) (f ∷ fs) = go e.fate f.fate (fates_order w (n + 1) es fs)
  where
    go : (x y : Fate) → Everyone w (ev.fates_from (n + 1) es fs) → Everyone w (ev.fate_seen n x y ++ ev.fates_from (n + 1) es fs)
    go fates.Pending fates.Hard h = λ c a. (tt, h c a)
    go fates.Pending (fates.Gone cause) h = λ c a. (tt, h c a)
    go fates.Pending fates.Pending h = h
    go fates.Hard y h = h
    go (fates.Gone cause) y h = h

-- What is taken at an event is what is seen of it.
pub record Came (t : World) (e : Event) (x : Taking) : Type 0 where
  pub its : (a : AsksOf) → a ≡ at_site (site_of t x.client) → (told_all x.client (of_event t e) a).pending ≡ a.pending ++ coming x.input
  pub number : (op : ℕ) (ask : Ask) → x.input ≡ inputs.App op ask → op ≡ (at_site (site_of t x.client)).count + 1

came_plain : (t : World) (e : Event) (x : Taking) → Dull t e → coming x.input ≡ [] → ((op : ℕ) (ask : Ask) → x.input ≡ inputs.App op ask → ⊥) → Came t e x
came_plain t e x d c n =
    record {
      its =
          λ a q. ap (λ (z : AsksOf). z.pending) (d x.client a) ∙ (sym (append-nil a.pending) ∙ ap (λ ks. a.pending ++ ks) (sym c));
      number = λ op ask q. absurd (n op ask q);
    }

tick_no : (op : ℕ) (ask : Ask) → inputs.Tick ≡ inputs.App op ask → ⊥
tick_no op ask q = cc

control_no : (m : Message) (op : ℕ) (ask : Ask) → inputs.Control m ≡ inputs.App op ask → ⊥
control_no m op ask q = cc

end_no : (t : World) (k : ℕ) (ok : Bool) (y : IssuedCommand) (op : ℕ) (ask : Ask) → ev.end_told t k ok y ≡ inputs.App op ask → ⊥
end_no t k ok y op ask q = cc

came_ask : (t : World) (c : ClientId) (ask : Ask) (o : Option WorldClient) (x : Taking) → site_of t c ≡ o → asking (ev.counted t) c ask o ≡ Some x →
    Came t (events.App c ask) x
unfolding of_event
came_ask t c ask None x at q = cc q
came_ask t c ask (Some site) x at q =
    subst (Came t (events.App c ask)) (some_is q)
    (record {
      its =
          λ a e.
          ap (λ (z : AsksOf). z.pending) (if_true (c.0 == c.0) (asked_once ask a) a (eq-eqb c.0 c.0 refl))
          ∙ ap (λ m. a.pending ++ (m + 1, ask) ∷ []) (ap (λ (z : AsksOf). z.count) e ∙ ap (λ o. (at_site o).count) at);
      number = λ op b e. sym (ap number_of e) ∙ ap (λ o. (at_site o).count + 1) (sym at);
    })
  where
    number_of : ClientInput → ℕ
    number_of (inputs.App op b) = op
    number_of i = 0

came_tick : (t : World) (c : ClientId) (o : Option WorldClient) (x : Taking) → taking (ev.counted t) c inputs.Tick o ≡ Some x →
    Came t (events.Tick (nodes.Client c)) x
unfolding of_event
came_tick t c None x q = cc q
came_tick t c (Some site) x q =
    subst (Came t (events.Tick (nodes.Client c))) (some_is q)
    (came_plain t (events.Tick (nodes.Client c)) (record { world = ev.counted t; client = c; input = inputs.Tick; site = site }) (λ d a. refl) refl tick_no)

came_message : (t : World) (k : ℕ) (o : Option SentMessage) (x : Taking) → receiving_of (ev.counted t) o ≡ Some x → Came t (events.Deliver k) x
unfolding of_event
came_message t k None x q = cc q
came_message t k (Some m) x q = to (receiver_of m) q
  where
    at : (c : ClientId) (o : Option WorldClient) → taking (ev.counted t) c (inputs.Control m.message) o ≡ Some x → Came t (events.Deliver k) x
    at c None q = cc q
    at c (Some site) q =
        subst (Came t (events.Deliver k)) (some_is q)
        (came_plain t (events.Deliver k) (record { world = ev.counted t; client = c; input = inputs.Control m.message; site = site }) (λ d a. refl) refl
        (control_no m.message))

    to : (n : NodeId) → receiving (ev.counted t) m.message n ≡ Some x → Came t (events.Deliver k) x
    to (nodes.Client c) q = at c (site_of t c) q
    to (nodes.Server s) q = cc q

came_report : (t : World) (k : ℕ) (ok : Bool) (o : Option IssuedCommand) (x : Taking) →
    told_of (ev.with_disks (ev.disks_after t.disks (disks.done t.disks k ok)) (ev.counted t)) k ok o ≡ Some x → Came t (events.Report k ok) x
came_report t k ok None x q = cc q
came_report t k ok (Some y) x q = at (site_of t y.client) q
  where
    v : World
    v = ev.with_disks (ev.disks_after t.disks (disks.done t.disks k ok)) (ev.counted t)

    at : (o : Option WorldClient) → told_at v k ok y o ≡ Some x → Came t (events.Report k ok) x
    at None q = cc q
    at (Some site) q = go (ev.is_same_instance y site) q
      where
        go : (b : Bool) → (if b then taking v y.client (ev.end_told v k ok y) (Some site) else None) ≡ Some x → Came t (events.Report k ok) x
        go false q = cc q
        go true q =
            subst (Came t (events.Report k ok)) (some_is q)
            (came_plain t (events.Report k ok) (record { world = v; client = y.client; input = ev.end_told v k ok y; site = site }) (report_dull t k ok) refl
            (end_no v k ok y))

pub came : (t : World) (e : Event) (x : Taking) → taken (ev.counted t) e ≡ Some x → Came t e x
came t (events.Tick (nodes.Client c)) x q = came_tick t c (site_of t c) x q
came t (events.App c ask) x q = came_ask t c ask (site_of t c) x refl q
came t (events.Deliver k) x q = came_message t k (message_of t k) x q
came t (events.Report k ok) x q = came_report t k ok (issued_of t k) x q
came t e x q = cc q

-- What is pending of a client has numbers that rise.
pub record Rising (a : AsksOf) : Type 0 where
  pub counted : IsCounted a
  pub mounts : Mounts a.pending

apart_same : (ks : List (ℕ × Ask)) → Apart ks → (k j : ℕ × Ask) → Has k ks → Has j ks → k.0 ≡ j.0 → k ≡ j
apart_same [] a k j i h q = absurd i
apart_same (x ∷ ks) a k j (inl d) (inl e) q = d ∙ sym e
apart_same (x ∷ ks) a k j (inl d) (inr h) q = absurd (a.first j h (ap (λ (z : ℕ × Ask). z.0) (sym d) ∙ q))
apart_same (x ∷ ks) a k j (inr i) (inl e) q = absurd (a.first k i (ap (λ (z : ℕ × Ask). z.0) (sym e) ∙ sym q))
apart_same (x ∷ ks) a k j (inr i) (inr h) q = apart_same ks a.rest k j i h q

mounts_kept : (test : ℕ × Ask → Bool) (ks : List (ℕ × Ask)) → Mounts ks → Mounts (filter test ks)
mounts_kept test [] m = tt
mounts_kept test (k ∷ ks) m = go (test k) (mounts_kept test ks m.rest)
  where
    go : (b : Bool) → Mounts (filter test ks) → Mounts (if b then k ∷ filter test ks else filter test ks)
    go true r = record { first = λ j i. m.first j (has_filter test ks j i).0; rest = r }
    go false r = r

if_mounts : (b : Bool) (x y : AsksOf) → Mounts x.pending → Mounts y.pending → Mounts (if b then x else y).pending
if_mounts true x y p q = p
if_mounts false x y p q = q

told_mounts : (c : ClientId) (it : VolumeStep) (a : AsksOf) → Rising a → Mounts (told_by c it a).pending
told_mounts c (steps.Asked d ask) a h =
    if_mounts (d.0 == c.0) (asked_once ask a) a
    (mounts_last a.pending (a.count + 1, ask) (λ j i. let l = h.counted.below j i in omega (arith, l)) h.mounts) h.mounts
told_mounts c (steps.Answered d op answer) a h =
    if_mounts (d.0 == c.0) (record a { pending = without_ask op a.pending }) a (mounts_kept (λ (j : ℕ × Ask). Words.not (j.0 == op)) a.pending h.mounts)
    h.mounts
told_mounts c (steps.Crashed d) a h = if_mounts (d.0 == c.0) (record a { pending = [] }) a tt h.mounts
told_mounts c (steps.TakesEffect d op) a h = h.mounts
told_mounts c (steps.Joined i d what) a h = h.mounts
told_mounts c (steps.Hardened i) a h = h.mounts
told_mounts c (steps.Dropped i cause) a h = h.mounts
told_mounts c (steps.Restarted s) a h = h.mounts
told_mounts c (steps.WriteFailed d number i) a h = h.mounts
told_mounts c (steps.ReadFailed d s number) a h = h.mounts

pub all_rising : (c : ClientId) (its : List VolumeStep) (a : AsksOf) → Rising a → Rising (told_all c its a)
all_rising c [] a h = h
all_rising c (it ∷ its) a h =
    all_rising c its (told_by c it a) (record { counted = all_counted c (it ∷ []) a h.counted; mounts = told_mounts c it a h })

-- A client takes an input.
module _ (t : World) (e : Event) (sc : WorldTurn) (rising : (c : ClientId) → Rising (at_site (site_of t c))) (x : Taking) (q : taken (ev.counted t) e ≡ Some x)
    (y : Takes (ev.counted t) sc x) where
  abbrev c : ClientId
  c = x.client

  abbrev s : ClientState
  s = x.site.node.state

  its_asks : at_site (site_of t c) ≡ asks_as y.old.asks (map key s.operations)
  its_asks = ap at_site y.there ∙ ap (λ (n : cl.ClientNode). asks_as y.old.asks (map key n.state.operations)) y.same

  its : Rising (asks_as y.old.asks (map key s.operations))
  its = subst Rising its_asks (rising c)

  comes : Comes (y.old.asks + 1) (coming x.input)
  comes = go x.input (λ op ask z. (came t e x q).number op ask z ∙ ap (λ (a : AsksOf). a.count + 1) its_asks)
    where
      go : (i : ClientInput) → ((op : ℕ) (ask : Ask) → i ≡ inputs.App op ask → op ≡ y.old.asks + 1) → Comes (y.old.asks + 1) (coming i)
      go (inputs.App op ask) h = record { lone = λ k j i l. both k j i l; its = λ k i. one k i }
        where
          both : (k j : ℕ × Ask) → Has k ((op, ask) ∷ []) → Has j ((op, ask) ∷ []) → k ≡ j
          both k j (inl a) (inl b) = a ∙ sym b
          both k j (inr a) b = absurd a
          both k j (inl a) (inr b) = absurd b

          one : (k : ℕ × Ask) → Has k ((op, ask) ∷ []) → k.0 ≡ y.old.asks + 1
          one k (inl a) = ap (λ (z : ℕ × Ask). z.0) a ∙ h op ask refl
          one k (inr a) = absurd a
      go inputs.Tick h = record { lone = λ k j i l. absurd i; its = λ k i. absurd i }
      go (inputs.Control m) h = record { lone = λ k j i l. absurd i; its = λ k i. absurd i }
      go (inputs.Done number result) h = record { lone = λ k j i l. absurd i; its = λ k i. absurd i }

  comes_in : (i : ClientInput) (op : ℕ) (ask : Ask) → i ≡ inputs.App op ask → Has (op, ask) (coming i)
  comes_in (inputs.App n b) op ask z = inl (ap (λ m. (m, ask)) (ap number_of (sym z)) ∙ ap (λ k. (n, k)) (ap (ask_of b) (sym z)))
    where
      number_of : ClientInput → ℕ
      number_of (inputs.App op b) = op
      number_of i = 0

      ask_of : Ask → ClientInput → Ask
      ask_of d (inputs.App op b) = b
      ask_of d i = d
  comes_in inputs.Tick op ask z = cc z
  comes_in (inputs.Control m) op ask z = cc z
  comes_in (inputs.Done number result) op ask z = cc z

  said_in_order : InOrder (cl.client_step s (now_at x) x.input).out (map key s.operations ++ coming x.input)
  said_in_order =
      step_in_order (y.old.asks + 1) (coming x.input) comes s (now_at x) x.input (comes_in x.input) its.mounts
      (apart_same (map key s.operations) its.counted.apart) (λ k i. let l = its.counted.below k i in omega (arith, l))

  start : AsksOf
  start = told_all c (of_event t e) (at_site (site_of t c))

  start_is : start.pending ≡ map key s.operations ++ coming x.input
  unfolding start
  start_is = (came t e x q).its (at_site (site_of t c)) refl ∙ ap (λ (a : AsksOf). a.pending ++ coming x.input) its_asks

  taken_in_order : (d : ClientId) → AllInOrder t d sc.seen (told_all d (of_event t e) (at_site (site_of t d)))
  unfolding ev.client_takes ev.client_took cl.node_step start
  taken_in_order d = subst (λ (z : WorldTurn). AllInOrder t d z.seen (told_all d (of_event t e) (at_site (site_of t d)))) (sym y.is) (go x.site.node.running)
    where
      u : ClientTurn
      u = cl.client_step s (now_at x) x.input

      said : WorldTurn
      said = ev.client_says_all c s u.out (ev.quiet (ev.with_site c (ev.at_node (record x.site.node { state = u.state }) x.site) x.world))

      by : (b : Bool) → (c.0 == d.0) ≡ b → AllInOrder t d said.seen (told_all d (of_event t e) (at_site (site_of t d)))
      by false n =
          other_order t c d s u.out (ev.quiet (ev.with_site c (ev.at_node (record x.site.node { state = u.state }) x.site) x.world)) _ n tt
      by true n =
          subst (λ (z : ClientId). AllInOrder t z said.seen (told_all z (of_event t e) (at_site (site_of t z)))) (Words.Truth.client_is c d n)
          (own_order t c s u.out (ev.quiet (ev.with_site c (ev.at_node (record x.site.node { state = u.state }) x.site) x.world)) start
          (subst (InOrder u.out) (sym start_is) said_in_order) tt)

      go : (b : Bool) → AllInOrder t d (ev.client_took x.world c x.site (if b then Ok (cl.node_turn x.site.node u) else Err Crashed)).seen
          (told_all d (of_event t e) (at_site (site_of t d)))
      go true = by (c.0 == d.0) refl
      go false = tt

-- Any event.
pub event_in_order : (t : World) (e : Event) (sc : WorldTurn) → world_step t e ≡ Ok sc → ((c : ClientId) → Rising (at_site (site_of t c))) → (d : ClientId) →
    AllInOrder t d sc.seen (told_all d (of_event t e) (at_site (site_of t d)))
event_in_order t e sc f rising d = go (taken (ev.counted t) e) refl
  where
    z : sc ≡ ev.happens (ev.counted t) e
    z = (step_happens t e sc f).1

    go : (o : Option Taking) → taken (ev.counted t) e ≡ o → AllInOrder t d sc.seen (told_all d (of_event t e) (at_site (site_of t d)))
    go None q =
        subst (λ (y : WorldTurn). AllInOrder t d y.seen (told_all d (of_event t e) (at_site (site_of t d)))) (sym z)
        (others (Everyone t) (λ c a. tt) (server_order t) (fates_order t) (ev.counted t) e q d (told_all d (of_event t e) (at_site (site_of t d))))
    go (Some x) q = taken_in_order t e sc rising x q (subst (λ (y : WorldTurn). Takes (ev.counted t) y x) (sym z) (takes_event (ev.counted t) e x q)) d
