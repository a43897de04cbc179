-- A client's step tells its losses before it answers any sync hard; an event at which it takes no step leaves what must be lost.
use Rattle.st_lemmas.proofs.Words
use Words.{◌≡◌, ◌≤◌, ℕ, ◌⊎◌, Bool, true, false, ◌&&◌, ◌||◌, List, [], ◌∷◌, ◌++◌, Option, Some, None, Ok, Err, refl, sym, ap, ◌∙◌, subst, inl, inr, arith, if◌then◌else◌}
use Words.{append_assoc, eq-eqb, find, list_all, list_any, le-leb, leb-true, BlockAt, ClientId, Command, Life, LeaseLife, ServerId, Stamp, AppAnswer, Note, Output, ClientInput, Observation, LogOwner}
use Words.answers
use Words.events
use Words.inputs
use Words.nodes
use Words.notes
use Words.outputs
use Words.seen
use Words.Client as cl
use Words.ClientPasses as cp
use Words.ClientReplies as cr
use Words.ClientState.{Association, ClientSession, ClientState, ClientTurn, Turn, at_each, at_these, client_turn, enter, is_at, leave, only_at, server_of, with_associations}
use Words.Disks as disks
use Words.Events as ev
use Words.Events.{WorldTurn}
use Words.Keys.{same_client, same_server}
use Words.Lists.{Has}
use Words.Lookups.{or_left, or_right, some_is}
use Words.Server as server
use Words.Tables.{and_both, and_true, found_at, has_append}
use Words.Truth.{clash}
use Words.World as world
use Words.World.{World, WorldClient, clock_of, site_of}
use Rattle.st_rules.specs.declared.node.StepRefusal.TheVariants.{Crashed}
use Rattle.st_laws_steps.specs.Client.Client.{Unhard}
use Rattle.st_laws_steps.specs.Client.Inputs as taking
use Rattle.st_laws_steps.specs.Client.Inputs.{Taken}
use Rattle.st_laws_steps.specs.Client.Losses.{Fit, is_ended}
use Rattle.st_laws_steps.specs.Lives.Lives.{ended_rows, lost_row, row_lost, rows_lost, rows_said}
use Rattle.st_laws_steps.proofs.Client.Asking.{changes_by_passes}
use Rattle.st_laws_steps.proofs.Client.Losing.{changes_by_only}
use Rattle.st_laws_steps.proofs.Client.Nexts.{Next, changes_next}
use Rattle.st_laws_steps.proofs.Client.Replying.{changes_by_receive}
use Rattle.st_laws_steps.proofs.Client.Stepping.{finish_next, losses_left, phased}
use Rattle.st_laws_steps.proofs.Client.Taking.{taken}
use Rattle.st_laws_pages.proofs.Causes.Placed.{EachOut, Since, since_none, since_then}
use Rattle.st_laws_pages.proofs.Causes.Unhard.{unhard_kept_by_lose}
use Rattle.st_laws_pages.proofs.Flush.Adding.{Grows, grows_none, grows_then}
use Rattle.st_laws_volume.specs.LossMarks.{IsLate}
use Rattle.st_laws_volume.proofs.LossLines.{is_loss_of}

-- The losses answer no sync hard.
these_unhard : (now : Stamp) (al : List Association) (t : ClientTurn) → Since Unhard t.out (at_these (cl.lose now) al t).out
unfolding at_these
these_unhard now [] t = since_none Unhard t.out
these_unhard now (a ∷ al) t =
    since_then Unhard t.out (cl.lose now (enter t a)).out (at_these (cl.lose now) al (leave t (cl.lose now (enter t a)))).out
    (unhard_kept_by_lose now (enter t a)) (these_unhard now al (leave t (cl.lose now (enter t a))))

pub losses_unhard : (now : Stamp) (s : ClientState) → EachOut Unhard (cl.losses (client_turn s []) now).out
unfolding cl.losses at_each
losses_unhard now s = let z = these_unhard now s.associations (with_associations [] (client_turn s [])) in subst (EachOut Unhard) (sym z.out) z.each

-- They tell each loss.
row_told : (c : ClientId) (s : ClientState) (os : List Output) (server : ServerId) (life : Life) → Has (lost_row c s server life) (ended_rows c s os) →
    (v : Life) × Has (outputs.Note (notes.Lost server v)) os
unfolding ended_rows
row_told c s [] server life h = absurd h
row_told c s (o ∷ os) server life h =
    go (has_append (rows_said c s o) (ended_rows c s os) (lost_row c s server life) h) (λ i. row_told c s os server life i)
  where
    note : (n : Note) → Has (lost_row c s server life) (rows_said c s (outputs.Note n)) → (v : Life) × (n ≡ notes.Lost server v)
    note (notes.Lost t v) (inl e) = (v, ap (λ z. notes.Lost z v) (sym (ap (λ (l : LeaseLife). l.server) e)))
    note (notes.Lost t v) (inr i) = absurd i
    note n i = absurd i

    said : (o : Output) → Has (lost_row c s server life) (rows_said c s o) → (v : Life) × (o ≡ outputs.Note (notes.Lost server v))
    said (outputs.Note n) i = let z = note n i in (z.0, ap (λ m. outputs.Note m) z.1)
    said o i = absurd i

    go : Has (lost_row c s server life) (rows_said c s o) ⊎ Has (lost_row c s server life) (ended_rows c s os) →
        (Has (lost_row c s server life) (ended_rows c s os) → (v : Life) × Has (outputs.Note (notes.Lost server v)) os) →
        (v : Life) × Has (outputs.Note (notes.Lost server v)) (o ∷ os)
    go (inl i) r = let z = said o i in (z.0, inl (sym z.1))
    go (inr i) r = let z = r i in (z.0, inr z.1)

row_there : (c : ClientId) (s : ClientState) (now : Stamp) (al : List Association) (a : Association) → Has a al → is_ended s.config now a.session ≡ true →
    Has (lost_row c s a.server a.life) (rows_lost c s now al)
unfolding rows_lost row_lost
row_there c s now [] a h e = absurd h
row_there c s now (x ∷ al) a (inl q) e =
    let z : is_ended s.config now x.session ≡ true = ap (λ (y : Association). is_ended s.config now y.session) (sym q) ∙ e in
    subst (λ b. Has (lost_row c s a.server a.life) ((if b then lost_row c s x.server x.life ∷ [] else []) ++ rows_lost c s now al)) (sym z)
    (inl (ap (λ (y : Association). lost_row c s y.server y.life) q))
row_there c s now (x ∷ al) a (inr h) e = go (is_ended s.config now x.session) (row_there c s now al a h e)
  where
    go : (b : Bool) → Has (lost_row c s a.server a.life) (rows_lost c s now al) →
        Has (lost_row c s a.server a.life) ((if b then lost_row c s x.server x.life ∷ [] else []) ++ rows_lost c s now al)
    go true r = inr r
    go false r = r

pub losses_told : (c : ClientId) (s : ClientState) (now : Stamp) → ((a : Association) → Has a s.associations → Fit a) → (a : Association) → Has a s.associations →
    is_ended s.config now a.session ≡ true → (v : Life) × Has (outputs.Note (notes.Lost a.server v)) (cl.losses (client_turn s []) now).out
unfolding ended_rows
losses_told c s now fit a h e =
    row_told c s (cl.losses (client_turn s []) now).out a.server a.life
    (subst (Has (lost_row c s a.server a.life)) (sym (losses_left c s now (client_turn s []) refl fit).out) (row_there c s now s.associations a h e))

-- What comes after them only joins.
each_grows : (rule : Turn → Turn) → ((t : Turn) → Fit t.here → Grows t.out (rule t).out) → (al : List Association) (t : ClientTurn) →
    ((b : Association) → Has b al → Fit b) → Grows t.out (at_these rule al t).out
unfolding at_these
each_grows rule one [] t f = grows_none t.out
each_grows rule one (a ∷ al) t f =
    grows_then t.out (rule (enter t a)).out (at_these rule al (leave t (rule (enter t a)))).out (one (enter t a) (f a (inl refl)))
    (each_grows rule one al (leave t (rule (enter t a))) (λ b i. f b (inr i)))

next_grows : (now : Stamp) (t u : Turn) → Next now t u → Grows t.out u.out
next_grows now t u n = record { more = n.more; out = n.out }

input_grows : (now : Stamp) (input : ClientInput) (t u : ClientTurn) → Taken t now input u → ((a : Association) → Has a t.state.associations → Fit a) →
    Grows t.out u.out
unfolding at_each
input_grows now _ t _ (taking.Nothing i) f = grows_none t.out
input_grows now _ t _ (taking.Full op ask e) f = record { more = _ ∷ []; out = refl }
input_grows now _ t _ (taking.Unknown op ask e g) f = record { more = _ ∷ []; out = refl }
input_grows now _ t _ (taking.Takes op ask e g) f =
    each_grows (only_at (server_of ask) (cl.take_ask op ask))
    (λ u p. next_grows now u _ (changes_next now u _ (changes_by_only now (server_of ask) op ask u))) t.state.associations (with_associations [] t) f
input_grows now _ t _ (taking.Receives m e) f =
    each_grows (cr.receive_at now m.header m.body) (λ u p. next_grows now u _ (changes_next now u _ (changes_by_receive now m.header m.body u p.fresh)))
    t.state.associations (with_associations [] t) f
input_grows now _ t _ (taking.Finishes number result) f =
    each_grows (cl.finish number result) (λ u p. next_grows now u _ (finish_next now number result u)) t.state.associations (with_associations [] t) f

step_grows : (c : ClientId) (s : ClientState) (now : Stamp) (input : ClientInput) → ((a : Association) → Has a s.associations → Fit a) →
    Grows (cl.losses (client_turn s []) now).out (cl.client_step s now input).out
unfolding cl.client_step cl.work at_each
step_grows c s now input f =
    let p = phased c s now input f in
    let t : ClientTurn = cl.losses (client_turn s []) now in
    let u : ClientTurn = cl.take_input t now input in
    grows_then t.out u.out (cl.work u now input).out (input_grows now input t u (taken t now input) p.fit)
    (each_grows (cp.passes now (cl.is_tick input)) (λ x e. next_grows now x _ (changes_next now x _ (changes_by_passes now (cl.is_tick input) x)))
    u.state.associations (with_associations [] u) p.fit_too)

-- Lines of outputs.
abbrev pub is_unhard : Observation → Bool
is_unhard (seen.Answered c op answers.Hard) = false
is_unhard o = true

-- the lines of one output
record LinesOf (c : ClientId) (o : Output) (old new : List Observation) : Type 0 where
  more : List Observation
  is : new ≡ old ++ more
  unhard : Unhard o → list_all is_unhard more ≡ true
  loss : (s : ServerId) (v : Life) → o ≡ outputs.Note (notes.Lost s v) → list_any (is_loss_of c s) more ≡ true

pub none_more : (os : List Observation) → os ≡ os ++ []
none_more [] = refl
none_more (o ∷ os) = ap (λ xs. o ∷ xs) (none_more os)

self_client : (c : ClientId) → same_client c c ≡ true
self_client c = eq-eqb c.0 c.0 refl

pub its_loss : (c : ClientId) (s t : ServerId) (v : Life) → t ≡ s → list_any (is_loss_of c s) (seen.Lost c t v ∷ []) ≡ true
its_loss c s t v e =
    or_left (same_client c c && same_server t s) false
    (and_both (same_client c c) (same_server t s) (self_client c) (eq-eqb t.0 s.0 (ap (λ (z : ServerId). z.0) e)))

lost_server : (s t : ServerId) (v u : Life) → outputs.Note (notes.Lost t u) ≡ outputs.Note (notes.Lost s v) → t ≡ s
lost_server s t v u e = cc

note_lines : (c : ClientId) (before : ClientState) (n : Note) (sc : WorldTurn) → LinesOf c (outputs.Note n) sc.seen (ev.client_notes sc c before n).seen
unfolding ev.client_notes ev.accepts ev.patches ev.loses
note_lines c before (notes.Leased s end) sc = record { more = _ ∷ []; is = refl; unhard = λ u. refl; loss = λ t v e. cc e }
note_lines c before (notes.Lost s life) sc =
    record { more = seen.Lost c s life ∷ []; is = refl; unhard = λ u. refl; loss = λ t v e. its_loss c t s life (lost_server t s v life e) }
note_lines c before (notes.Accepted f p bytes) sc = record { more = _ ∷ []; is = refl; unhard = λ u. refl; loss = λ t v e. cc e }
note_lines c before (notes.Patched f p at bytes) sc = record { more = _ ∷ []; is = refl; unhard = λ u. refl; loss = λ t v e. cc e }
note_lines c before n sc = record { more = []; is = none_more sc.seen; unhard = λ u. refl; loss = λ t v e. cc e }

submit_lines : (c : ClientId) (site : Option WorldClient) (number : ℕ) (at : BlockAt) (what : Command) (sc : WorldTurn) →
    LinesOf c (outputs.Submit number at what) sc.seen (ev.submits sc c site number at what).seen
unfolding ev.submits
submit_lines c None number at what sc = record { more = []; is = none_more sc.seen; unhard = λ u. refl; loss = λ t v e. cc e }
submit_lines c (Some site) number at what sc = record { more = _ ∷ []; is = refl; unhard = λ u. refl; loss = λ t v e. cc e }

answer_lines : (c : ClientId) (op : ℕ) (answer : AppAnswer) → Unhard (outputs.Answer op answer) → list_all is_unhard (seen.Answered c op answer ∷ []) ≡ true
answer_lines c op answers.Hard u = absurd u
answer_lines c op answer u = refl

output_lines : (c : ClientId) (before : ClientState) (o : Output) (sc : WorldTurn) → LinesOf c o sc.seen (ev.client_says sc c before o).seen
unfolding ev.client_says ev.sends ev.answers_with
output_lines c before (outputs.Send m) sc = record { more = _ ∷ []; is = refl; unhard = λ u. refl; loss = λ t v e. cc e }
output_lines c before (outputs.Submit number at what) sc = submit_lines c (site_of sc.world c) number at what sc
output_lines c before (outputs.Answer op answer) sc =
    record { more = seen.Answered c op answer ∷ []; is = refl; unhard = λ u. answer_lines c op answer u; loss = λ t v e. cc e }
output_lines c before (outputs.Note n) sc = note_lines c before n sc

all_both : {A : Type 0} (p : A → Bool) (xs ys : List A) → list_all p xs ≡ true → list_all p ys ≡ true → list_all p (xs ++ ys) ≡ true
all_both p [] ys a b = b
all_both p (x ∷ xs) ys a b = let z = and_true (p x) (list_all p xs) a in and_both (p x) (list_all p (xs ++ ys)) z.0 (all_both p xs ys z.1 b)

any_left : {A : Type 0} (p : A → Bool) (xs ys : List A) → list_any p xs ≡ true → list_any p (xs ++ ys) ≡ true
any_left p [] ys q = cc q
any_left p (x ∷ xs) ys q = go (p x) q (any_left p xs ys)
  where
    go : (b : Bool) → (b || list_any p xs) ≡ true → (list_any p xs ≡ true → list_any p (xs ++ ys) ≡ true) → (b || list_any p (xs ++ ys)) ≡ true
    go true q r = refl
    go false q r = r q

any_right : {A : Type 0} (p : A → Bool) (xs ys : List A) → list_any p ys ≡ true → list_any p (xs ++ ys) ≡ true
any_right p [] ys q = q
any_right p (x ∷ xs) ys q = or_right (p x) (list_any p (xs ++ ys)) (any_right p xs ys q)

-- the lines of several outputs
record LinesOfAll (c : ClientId) (os : List Output) (old new : List Observation) : Type 0 where
  more : List Observation
  is : new ≡ old ++ more
  unhard : EachOut Unhard os → list_all is_unhard more ≡ true
  loss : (s : ServerId) (v : Life) → Has (outputs.Note (notes.Lost s v)) os → list_any (is_loss_of c s) more ≡ true

outputs_lines : (c : ClientId) (before : ClientState) (os : List Output) (sc : WorldTurn) → LinesOfAll c os sc.seen (ev.client_says_all c before os sc).seen
unfolding ev.client_says_all
outputs_lines c before [] sc = record { more = []; is = none_more sc.seen; unhard = λ u. refl; loss = λ s v h. absurd h }
outputs_lines c before (o ∷ os) sc = both (outputs_lines c before os (ev.client_says sc c before o))
  where
    a : LinesOf c o sc.seen (ev.client_says sc c before o).seen
    a = output_lines c before o sc

    AllMore : Type 0
    AllMore = LinesOfAll c os (ev.client_says sc c before o).seen (ev.client_says_all c before os (ev.client_says sc c before o)).seen

    loss : (b : AllMore) (s : ServerId) (v : Life) → Has (outputs.Note (notes.Lost s v)) (o ∷ os) → list_any (is_loss_of c s) (a.more ++ b.more) ≡ true
    loss b s v (inl e) = any_left (is_loss_of c s) a.more b.more (a.loss s v (sym e))
    loss b s v (inr i) = any_right (is_loss_of c s) a.more b.more (b.loss s v i)

    both : AllMore → LinesOfAll c (o ∷ os) sc.seen (ev.client_says_all c before os (ev.client_says sc c before o)).seen
    both b = record {
      more = a.more ++ b.more;
      is = b.is ∙ (ap (λ xs. xs ++ b.more) a.is ∙ append_assoc sc.seen a.more b.more);
      unhard = λ u. all_both is_unhard a.more b.more (a.unhard u.one) (b.unhard u.rest);
      loss = λ s v h. loss b s v h;
    }

pub says_both : (c : ClientId) (before : ClientState) (os ps : List Output) (sc : WorldTurn) →
    ev.client_says_all c before (os ++ ps) sc ≡ ev.client_says_all c before ps (ev.client_says_all c before os sc)
unfolding ev.client_says_all
says_both c before [] ps sc = refl
says_both c before (o ∷ os) ps sc = says_both c before os ps (ev.client_says sc c before o)

-- The lines of a step of a client: first those of its losses.
pub record Shape (w : World) (c : ClientId) (os : List Observation) : Type 0 where
  pub first : List Observation
  pub rest : List Observation
  pub is : os ≡ first ++ rest
  pub unhard : list_all is_unhard first ≡ true
  pub losses : (o : LogOwner) → o.client ≡ c → IsLate w o → list_any (is_loss_of c o.file.server) first ≡ true

-- nothing of a client: it took no step
pub record Idle (w v : World) (c : ClientId) (os : List Observation) : Type 0 where
  pub late : (o : LogOwner) → o.client ≡ c → IsLate w o → IsLate v o
  pub silent : (op : ℕ) → Has (seen.Answered c op answers.Hard) os → ⊥

abbrev pub Part : World → ClientId → WorldTurn → Type 0
Part w c sc = Shape w c sc.seen ⊎ Idle w sc.world c sc.seen

-- a client that does not run has nothing to lose
still_shape : (w : World) (c : ClientId) (os : List Observation) → ((o : LogOwner) → o.client ≡ c → IsLate w o → ⊥) → Shape w c os
still_shape w c os never = record { first = []; rest = os; is = refl; unhard = refl; losses = λ o e l. absurd (never o e l) }

module _ (w v : World) (c : ClientId) (old site : WorldClient) (there : site_of w c ≡ Some old) (same : old.node ≡ site.node)
    (clock : clock_of v (nodes.Client c) ≡ clock_of w (nodes.Client c)) (fit : (a : Association) → Has a old.node.state.associations → Fit a)
    (input : ClientInput) where
  abbrev now : Stamp
  now = clock_of v (nodes.Client c)

  abbrev s : ClientState
  s = site.node.state

  abbrev out : List Output
  out = (cl.client_step s now input).out

  its : (o : LogOwner) → o.client ≡ c → (l : IsLate w o) → l.site ≡ old
  its o e l = some_is (sym l.there ∙ (ap (site_of w) e ∙ there))

  own_fit : (a : Association) → Has a s.associations → Fit a
  own_fit = subst (λ (n : cl.ClientNode). (a : Association) → Has a n.state.associations → Fit a) same fit

  ran : Shape w c (ev.client_says_all c s out (ev.quiet (ev.with_site c (ev.at_node (cl.node_turn site.node (cl.client_step s now input)).node site) v))).seen
  ran =
      record {
        first = a.more;
        rest = b.more;
        is =
            ap (λ os. (ev.client_says_all c s os sc).seen) g.out
            ∙ (ap (λ (z : WorldTurn). z.seen) (says_both c s t.out g.more sc) ∙ (b.is ∙ ap (λ xs. xs ++ b.more) a.is));
        unhard = a.unhard (losses_unhard now s);
        losses = λ o e l. lost o e l;
      }
    where
      sc : WorldTurn
      sc = ev.quiet (ev.with_site c (ev.at_node (cl.node_turn site.node (cl.client_step s now input)).node site) v)

      t : ClientTurn
      t = cl.losses (client_turn s []) now

      g : Grows t.out out
      g = step_grows c s now input own_fit

      a : LinesOfAll c t.out [] (ev.client_says_all c s t.out sc).seen
      a = outputs_lines c s t.out sc

      b : LinesOfAll c g.more (ev.client_says_all c s t.out sc).seen (ev.client_says_all c s g.more (ev.client_says_all c s t.out sc)).seen
      b = outputs_lines c s g.more (ev.client_says_all c s t.out sc)

      lost : (o : LogOwner) → o.client ≡ c → IsLate w o → list_any (is_loss_of c o.file.server) a.more ≡ true
      lost o e l =
          let node : l.site.node ≡ site.node = ap (λ (x : WorldClient). x.node) (its o e l) ∙ same in
          let place : find (is_at o.file.server) s.associations ≡ Some l.a =
          ap (λ (n : cl.ClientNode). find (is_at o.file.server) n.state.associations) (sym node) ∙ l.place in
          let found = found_at (is_at o.file.server) s.associations l.a place in
          let over : is_ended s.config now l.a.session ≡ true =
          ap (λ x. is_ended s.config x l.a.session) (clock ∙ ap (λ d. clock_of w (nodes.Client d)) (sym e))
          ∙ (ap (λ (n : cl.ClientNode). is_ended n.state.config (clock_of w (nodes.Client o.client)) l.a.session) (sym node) ∙ l.over) in
          let told = losses_told c s now own_fit l.a found.1 over in
          subst (λ z. list_any (is_loss_of c z) a.more ≡ true)
          (ap (λ n. record { 0 = n }) (Rattle.std.proofs.lemmas.Bool.eqb-true l.a.server.0 o.file.server.0 found.0))
          (a.loss l.a.server told.0 told.1)

  pub step_shape : Shape w c (ev.client_takes v c input site).seen
  unfolding ev.client_takes ev.client_took cl.node_step
  step_shape = go site.node.running refl
    where
      go : (b : Bool) → site.node.running ≡ b →
          Shape w c (ev.client_took v c site (if b then Ok (cl.node_turn site.node (cl.client_step s now input)) else Err Crashed)).seen
      go true q = ran
      go false q =
          still_shape w c []
          (λ o e l. clash (ap (λ (n : cl.ClientNode). n.running) (sym same) ∙ (ap (λ (x : WorldClient). x.node.running) (sym (its o e l)) ∙ l.runs)) q)

-- What is late stays so while its client takes no step.
over_later : (site : WorldClient) (a : Association) (now later : Stamp) → now.0 ≤ later.0 → is_ended site.node.state.config now a.session ≡ true →
    is_ended site.node.state.config later a.session ≡ true
over_later site a now later l q = go a.session q
  where
    go : (x : Option ClientSession) → is_ended site.node.state.config now x ≡ true → is_ended site.node.state.config later x ≡ true
    go None q = cc q
    go (Some x) q = let z = leb-true _ _ q in le-leb _ _ (omega (arith, z, l))

pub late_stays : (w v : World) (c : ClientId) → site_of v c ≡ site_of w c → (clock_of w (nodes.Client c)).0 ≤ (clock_of v (nodes.Client c)).0 → (o : LogOwner) →
    o.client ≡ c → IsLate w o → IsLate v o
late_stays w v c same later o e l =
    record {
      site = l.site;
      there = ap (site_of v) e ∙ (same ∙ (ap (site_of w) (sym e) ∙ l.there));
      runs = l.runs;
      a = l.a;
      place = l.place;
      over =
          over_later l.site l.a (clock_of w (nodes.Client o.client)) (clock_of v (nodes.Client o.client))
          (subst (λ d. (clock_of w (nodes.Client d)).0 ≤ (clock_of v (nodes.Client d)).0) (sym e) later) l.over;
      page = l.page;
      dirty = l.dirty;
    }
