-- In every run each page that is dirty after an event at a client that runs was dirty before in the same life, or was changed in the event.
use Rattle.st_lemmas.proofs.Words
use Words.{◌≡◌, ℕ, ◌⊎◌, Bool, true, false, ◌&&◌, ◌||◌, ◌==◌, List, [], ◌∷◌, ◌++◌, Option, Some, None, refl, sym, ap, ◌∙◌, subst, inl, inr}
use Words.{eq-eqb, find, list_any, map, not, BlockAt, ClientId, Command, DirtyPage, Event, FileId, PageNo, ServerId, Stamp, Note, Output, ClientInput, Observation}
use Words.nodes
use Words.notes
use Words.outputs
use Words.Client as cl
use Words.ClientPages as pages
use Words.ClientPasses as cp
use Words.ClientReplies as cr
use Words.ClientState.{Association, ClientState, ClientTurn, Turn, answer_to, at_each, at_these, client_turn, enter, is_at, leave, note, only_at, server_of, with_associations}
use Words.Events as ev
use Words.Events.{WorldTurn}
use Words.Lists.{Has}
use Words.Lookups.{or_left, or_right, some_is}
use Words.Safety.{Step, step}
use Words.Tables.{and_both, has_append, has_map}
use Words.Truth.{clash}
use Words.World as world
use Words.World.{WorldClient, clock_of, fresh_world, site_of}
use Rattle.st_rules.specs.History.{Traced, traced}
use Rattle.st_rules.specs.Keys.{same_client}
use Rattle.st_lemmas.proofs.Contents.{Place_is, one_place}
use Rattle.st_lemmas.proofs.Tables.{and_true}
use Rattle.st_laws_steps.specs.Client.Client.{Change, Says, Operates, Answers, Greets, TellsLost, Begins, Follows, Learns, Forgets, Caches, Writes}
use Rattle.st_laws_steps.specs.Client.Client.{ChangesPage, Reads, Submits, Changes, Still, Then}
use Rattle.st_laws_steps.specs.Client.Losses.{Fit, Ends, Unknown, Passes, Hardens, Fails, is_ended, without}
use Rattle.st_laws_steps.specs.Client.Inputs as taking
use Rattle.st_laws_steps.specs.Client.Inputs.{Taken}
use Rattle.st_laws_steps.specs.Lives.Lives.{LifeNext, LivesHold, NodeHolds, Pairwise}
use Rattle.st_laws_steps.proofs.Client.Asking.{changes_by_passes}
use Rattle.st_laws_steps.proofs.Client.Losing.{Finished, changes_by_only, finish_is, is_done, rest_of}
use Rattle.st_laws_steps.proofs.Client.Nexts.{Next, changes_next, dirty_put, failed_found, found_fewer}
use Rattle.st_laws_steps.proofs.Client.Replying.{changes_by_receive}
use Rattle.st_laws_steps.proofs.Client.Stepping.{LostOrNot, Phased, finish_next, phased}
use Rattle.st_laws_steps.proofs.Client.Taking.{taken}
use Rattle.st_laws_steps.proofs.Lives.Associations.{own_found}
use Rattle.st_laws_pages.specs.Asks.Law.{PlacesHold}
use Rattle.st_laws_pages.proofs.Asks.Law.{places_law}
use Rattle.st_laws_pages.proofs.Causes.Law.{Stand, fresh_places, fresh_stand, one_step}
use Rattle.st_laws_pages.proofs.Flush.Adding.{Grows}
use Rattle.st_laws_volume.specs.DirtyPages.{DirtyPagesWereChanged, WasDirty, is_change_of}
use Rattle.st_laws_volume.specs.HardFiles.{is_page_at}
use Rattle.st_laws_volume.specs.Logs.{InEveryRun}
use Rattle.st_laws_volume.specs.Witness.{Witness}
use Rattle.st_laws_volume.proofs.Carried.{IsGiven, given_in}
use Rattle.st_laws_volume.proofs.EventClients.{Crashes, SiteNext, SiteStep, Starts, Stays, Steps, event_clients}
use Rattle.st_laws_volume.proofs.PresentLives.{pairs_back, stepped}

-- An output says that a page of a server was changed.
abbrev notes_change : ServerId → ℕ → PageNo → Note → Bool
notes_change s ino p (notes.Accepted f q bytes) = is_page_at s ino p f q
notes_change s ino p (notes.Patched f q at bytes) = is_page_at s ino p f q
notes_change s ino p n = false

abbrev pub says_change : ServerId → ℕ → PageNo → Output → Bool
says_change s ino p (outputs.Note n) = notes_change s ino p n
says_change s ino p (outputs.Send m) = false
says_change s ino p (outputs.Submit number at what) = false
says_change s ino p (outputs.Answer op a) = false

any_left : {A : Type 0} (p : A → Bool) (xs ys : List A) → list_any p xs ≡ true → list_any p (xs ++ ys) ≡ true
any_left p [] ys q = cc q
any_left p (x ∷ xs) ys q = go (p x) q (any_left p xs ys)
  where
    go : (b : Bool) → (b || list_any p xs) ≡ true → (list_any p xs ≡ true → list_any p (xs ++ ys) ≡ true) → (b || list_any p (xs ++ ys)) ≡ true
    go true q r = refl
    go false q r = r q

any_right : {A : Type 0} (p : A → Bool) (xs ys : List A) → list_any p ys ≡ true → list_any p (xs ++ ys) ≡ true
any_right p [] ys q = q
any_right p (x ∷ xs) ys q = or_right (p x) (list_any p (xs ++ ys)) (any_right p xs ys q)

-- A step of a client, from a state.
module _ (now : Stamp) (s : ClientState) where
  -- the page was dirty in that state, under a lease that isn't over
  pub record Begun (server : ServerId) (ino : ℕ) (p : PageNo) : Type 0 where
    pub a : Association
    pub has : Has a s.associations
    pub its : a.server ≡ server
    pub going : is_ended s.config now a.session ≡ false
    pub page : DirtyPage
    pub dirty : pages.dirty_of a.store.pages ino p ≡ Some page

  abbrev pub From : Association → List Output → Type 0
  From b out =
      (ino : ℕ) (p : PageNo) (d : DirtyPage) → pages.dirty_of b.store.pages ino p ≡ Some d →
      Begun b.server ino p ⊎ (list_any (says_change b.server ino p) out ≡ true)

  pub from_more : (b : Association) (os ps : List Output) → Grows os ps → From b os → From b ps
  from_more b os ps g h ino p d e = go (h ino p d e)
    where
      go : Begun b.server ino p ⊎ (list_any (says_change b.server ino p) os ≡ true) → Begun b.server ino p ⊎ (list_any (says_change b.server ino p) ps ≡ true)
      go (inl k) = inl k
      go (inr k) =
          inr (subst (λ xs. list_any (says_change b.server ino p) xs ≡ true) (sym g.out) (any_left (says_change b.server ino p) os g.more k))

  -- what was dirty may no longer be so
  pub fewer : (a b : Association) (out : List Output) → b.server ≡ a.server →
      ((ino : ℕ) (p : PageNo) (d : DirtyPage) → pages.dirty_of b.store.pages ino p ≡ Some d →
      (x : DirtyPage) × (pages.dirty_of a.store.pages ino p ≡ Some x)) →
      From a out → From b out
  fewer a b out server f h ino p d e =
      let z = f ino p d e in
      subst (λ v. Begun v ino p ⊎ (list_any (says_change v ino p) out ≡ true)) (sym server) (h ino p z.0 z.1)

  -- one change
  pub written : (t : Turn) (f : FileId) (p : PageNo) (bytes : List ℕ) (n : Note) → f.server ≡ t.here.server → ChangesPage f p n → From t.here t.out →
      From (cp.with_pages_changed (pages.written t.here.store.pages f.ino p bytes) f.ino p (note t n)).here (t.out ++ outputs.Note n ∷ [])
  unfolding pages.written
  written t f p bytes n own x h ino q d e = go (Place_is f.ino p ino q) refl
    where
      new : DirtyPage
      new = pages.new_dirty t.here.store.pages f.ino p bytes

      Here : Type 0
      Here = Begun t.here.server ino q ⊎ (list_any (says_change t.here.server ino q) (t.out ++ outputs.Note n ∷ []) ≡ true)

      at_page : (y : ℕ) (z : Bool) → ((f.ino == ino) && z) ≡ true → (((f.server.0 == t.here.server.0) && (f.ino == ino)) && z) ≡ true
      at_page y z k =
          let b = and_true (f.ino == ino) z k in
          and_both ((f.server.0 == t.here.server.0) && (f.ino == ino)) z
          (and_both (f.server.0 == t.here.server.0) (f.ino == ino) (eq-eqb f.server.0 t.here.server.0 (ap (λ (v : ServerId). v.0) own)) b.0) b.1

      noted : (m : Note) → ChangesPage f p m → is_page_at t.here.server ino q f p ≡ true → notes_change t.here.server ino q m ≡ true
      noted (notes.Accepted g r bytes) y i =
          ap (λ v. is_page_at t.here.server ino q v r) (sym y.0) ∙ (ap (is_page_at t.here.server ino q f) (sym y.1) ∙ i)
      noted (notes.Patched g r at bytes) y i =
          ap (λ v. is_page_at t.here.server ino q v r) (sym y.0) ∙ (ap (is_page_at t.here.server ino q f) (sym y.1) ∙ i)
      noted m y i = absurd y

      go : (b : Bool) → Place_is f.ino p ino q ≡ b → Here
      go true z =
          inr
          (any_right (says_change t.here.server ino q) t.out (outputs.Note n ∷ [])
          (or_left (notes_change t.here.server ino q n) false (noted n x (at_page 0 (p.0 == q.0) (turned z)))))
        where
          turned : Place_is f.ino p ino q ≡ true → ((f.ino == ino) && (p.0 == q.0)) ≡ true
          turned k =
              let b = one_place f.ino p ino q k in
              and_both (f.ino == ino) (p.0 == q.0) (eq-eqb f.ino ino b.0) (eq-eqb p.0 q.0 (ap (λ (v : PageNo). v.0) b.1))
      go false z =
          from_more t.here t.out (t.out ++ outputs.Note n ∷ []) (record { more = outputs.Note n ∷ []; out = refl }) h ino q d
          (sym (dirty_put new t.here.store.pages.dirty ino q false z) ∙ e)

  change_from : (t u : Turn) → Change now t u → From t.here t.out → From u.here u.out
  unfolding cp.submit_read cp.submit_write cp.submit_command pages.forget_from pages.drop_from
  change_from t _ (Says _ o p) h = from_more t.here t.out _ (record { more = o ∷ []; out = refl }) h
  change_from t _ (Operates _ os) h = h
  change_from t _ (Answers _ os ops a) h = from_more t.here t.out _ (record { more = map (answer_to a) ops; out = refl }) h
  change_from t _ (Greets _ g) h = h
  change_from t _ (TellsLost _ lost) h = h
  change_from t _ (Begins _ x e b n) h = h
  change_from t _ (Follows _ x v e g) h = h
  change_from t _ (Learns _ e v n) h = h
  change_from t _ (Forgets _ ino p i) h = h
  change_from t _ (Caches _ clean) h = h
  change_from t _ (Writes _ x f p bytes n e sv own m c) h = written t f p bytes n own c h
  change_from t _ (Reads _ ino p m i clean) h = from_more t.here t.out _ (record { more = _ ∷ []; out = refl }) h
  change_from t _ (Submits _ x ino p d m e i k w) h = from_more t.here t.out _ (record { more = _ ∷ []; out = refl }) h

  changes_from : (t u : Turn) → Changes now t u → From t.here t.out → From u.here u.out
  changes_from t _ (Still _) h = h
  changes_from t _ (Then _ u v c rest) h = changes_from u v rest (change_from t u c h)

  ends_from : (number : ℕ) (ok : Bool) (t u : Turn) → Ends number ok t u → From t.here t.out → From u.here u.out
  unfolding cl.hardened pages.harden pages.harden_at pages.harden_page pages.fail
  ends_from number ok t _ Unknown h = h
  ends_from number ok t _ (Passes c e o) h = h
  ends_from number ok t _ (Hardens c v e o k w) h =
      fewer t.here (cl.hardened (without number t) c).here t.out refl (λ ino p d i. at (pages.dirty_of t.here.store.pages c.ino c.page) ino p d i) h
    where
      at : (o : Option DirtyPage) (ino : ℕ) (p : PageNo) (d : DirtyPage) → pages.dirty_of (pages.harden_at t.here.store.pages o) ino p ≡ Some d →
          (x : DirtyPage) × (pages.dirty_of t.here.store.pages ino p ≡ Some x)
      at None ino p d i = (d, i)
      at (Some y) ino p d i = found_fewer (pages.is_dirty_of ino p) (λ x. not (pages.is_dirty_of y.ino y.page x)) t.here.store.pages.dirty d i
  ends_from number ok t _ (Fails c v e o k w) h =
      fewer t.here (cl.with_failed c (without number t)).here t.out refl (λ ino p d i. failed_found c.ino c.page c.number ino p t.here.store.pages.dirty d i) h

  finished_from : (number : ℕ) (ok : Bool) (t u : Turn) → Finished now number ok t u → From t.here t.out → From u.here u.out
  finished_from number ok t u f h = changes_from f.mid u (rest_of f) (ends_from number ok t f.mid f.ends h)

  -- A rule at each server in turn.
  pub next_grows : (t u : Turn) → Next now t u → Grows t.out u.out
  next_grows t u n = record { more = n.more; out = n.out }

  record Rule (rule : Turn → Turn) : Type 0 where
    from : (t : Turn) → Fit t.here → From t.here t.out → From (rule t).here (rule t).out
    grows : (t : Turn) → Fit t.here → Grows t.out (rule t).out

  abbrev pub EachFrom : List Association → List Output → Type 0
  EachFrom al out = (b : Association) → Has b al → From b out

  these_from : (rule : Turn → Turn) → Rule rule → (al : List Association) (t : ClientTurn) → ((b : Association) → Has b al → Fit b) → EachFrom al t.out →
      EachFrom t.state.associations t.out → EachFrom (at_these rule al t).state.associations (at_these rule al t).out
  unfolding at_these
  these_from rule r [] t f h k = k
  these_from rule r (a ∷ al) t f h k =
      these_from rule r al (leave t (rule (enter t a))) (λ b i. f b (inr i)) (λ b i. from_more b t.out (rule (enter t a)).out grown (h b (inr i)))
      (λ b i. go b (has_append t.state.associations ((rule (enter t a)).here ∷ []) b i))
    where
      grown : Grows t.out (rule (enter t a)).out
      grown = r.grows (enter t a) (f a (inl refl))

      go : (b : Association) → Has b t.state.associations ⊎ Has b ((rule (enter t a)).here ∷ []) → From b (rule (enter t a)).out
      go b (inl i) = from_more b t.out (rule (enter t a)).out grown (k b i)
      go b (inr (inl q)) =
          subst (λ z. From z (rule (enter t a)).out) (sym q) (r.from (enter t a) (f a (inl refl)) (h a (inl refl)))
      go b (inr (inr i)) = absurd i

  each_from : (rule : Turn → Turn) → Rule rule → (t : ClientTurn) → ((b : Association) → Has b t.state.associations → Fit b) →
      EachFrom t.state.associations t.out → EachFrom (at_each rule t).state.associations (at_each rule t).out
  unfolding at_each
  each_from rule r t f h = these_from rule r t.state.associations (with_associations [] t) f h (λ a i. absurd i)

  by_changes : (rule : Turn → Turn) → ((t : Turn) → Fit t.here → Changes now t (rule t)) → Rule rule
  by_changes rule f =
      record { from = λ t k h. changes_from t (rule t) (f t k) h; grows = λ t k. next_grows t (rule t) (changes_next now t (rule t) (f t k)) }

  input_from : (input : ClientInput) (t u : ClientTurn) → Taken t now input u → ((b : Association) → Has b t.state.associations → Fit b) →
      EachFrom t.state.associations t.out → EachFrom u.state.associations u.out
  input_from _ t _ (taking.Nothing i) f h = h
  input_from _ t _ (taking.Full op ask e) f h = λ b i. from_more b t.out _ (record { more = _ ∷ []; out = refl }) (h b i)
  input_from _ t _ (taking.Unknown op ask e g) f h = λ b i. from_more b t.out _ (record { more = _ ∷ []; out = refl }) (h b i)
  input_from _ t _ (taking.Takes op ask e g) f h =
      each_from (only_at (server_of ask) (cl.take_ask op ask)) (by_changes _ (λ u p. changes_by_only now (server_of ask) op ask u)) t f h
  input_from _ t _ (taking.Receives m e) f h =
      each_from (cr.receive_at now m.header m.body) (by_changes _ (λ u p. changes_by_receive now m.header m.body u p.fresh)) t f h
  input_from _ t _ (taking.Finishes number r) f h =
      each_from (cl.finish number r)
      (record {
        from = λ u p k. finished_from number (is_done r) u (cl.finish number r u) (finish_is now number r u) k;
        grows = λ u p. next_grows u (cl.finish number r u) (finish_next now number r u);
      }) t f h

  -- the losses leave the pages of leases that aren't over
  lost_from : (t : ClientTurn) → Pairwise (LostOrNot s.config now) s.associations t.state.associations →
      EachFrom t.state.associations t.out
  lost_from t pairs b i ino p d e = go (pairs_back (LostOrNot s.config now) s.associations t.state.associations b pairs i)
    where
      none : ◌≡◌ {A = Option DirtyPage} None (Some d) → ⊥
      none z = cc

      go : (a : Association) × Has a s.associations × LostOrNot s.config now a b → Begun b.server ino p ⊎ (list_any (says_change b.server ino p) t.out ≡ true)
      go (a, j, r) = by (is_ended s.config now a.session) refl
        where
          by : (k : Bool) → is_ended s.config now a.session ≡ k → Begun b.server ino p ⊎ (list_any (says_change b.server ino p) t.out ≡ true)
          by true q = absurd (none (ap (λ (st : pages.Store). pages.dirty_of st.pages ino p) (sym (r.emptied q)) ∙ e))
          by false q =
              inl (record {
                a = a;
                has = j;
                its = r.server;
                going = q;
                page = d;
                dirty = ap (λ (x : Association). pages.dirty_of x.store.pages ino p) (r.lasts q) ∙ e;
              })

  -- before the passes
  pub told_from : (c : ClientId) (input : ClientInput) → ((b : Association) → Has b s.associations → Fit b) →
      EachFrom (cl.take_input (cl.losses (client_turn s []) now) now input).state.associations
      (cl.take_input (cl.losses (client_turn s []) now) now input).out
  told_from c input f =
      let t : ClientTurn = cl.losses (client_turn s []) now in
      let u : ClientTurn = cl.take_input t now input in
      let p : Phased c s now t u (cl.work u now input) = phased c s now input f in
      input_from input t u (taken t now input) p.fit (lost_from t p.lost.pairs)

  step_from : (c : ClientId) (input : ClientInput) → ((b : Association) → Has b s.associations → Fit b) →
      EachFrom (cl.client_step s now input).state.associations (cl.client_step s now input).out
  unfolding cl.client_step cl.work
  step_from c input f =
      each_from (cp.passes now (cl.is_tick input)) (by_changes _ (λ x q. changes_by_passes now (cl.is_tick input) x)) u p.fit_too
      (told_from c input f)
    where
      t : ClientTurn
      t = cl.losses (client_turn s []) now

      u : ClientTurn
      u = cl.take_input t now input

      p : Phased c s now t u (cl.work u now input)
      p = phased c s now input f

-- Its lines say the same.
module _ (c : ClientId) (server : ServerId) (ino : ℕ) (p : PageNo) where
  abbrev lined : Observation → Bool
  lined = is_change_of c server ino p

  one_line : (os : List Observation) (o : Observation) → lined o ≡ true → list_any lined (os ++ o ∷ []) ≡ true
  one_line os o q = any_right lined os (o ∷ []) (or_left (lined o) false q)

  own : (b : Bool) → b ≡ true → (same_client c c && b) ≡ true
  own b q = and_both (same_client c c) b (eq-eqb c.0 c.0 refl) q

  note_lines : (before : ClientState) (n : Note) (sc : WorldTurn) → (list_any lined sc.seen ≡ true) ⊎ (notes_change server ino p n ≡ true) →
      list_any lined (ev.client_notes sc c before n).seen ≡ true
  unfolding ev.client_notes ev.accepts ev.patches ev.loses
  note_lines before (notes.Leased r end) sc (inl q) = any_left lined sc.seen _ q
  note_lines before (notes.Lost r life) sc (inl q) = any_left lined sc.seen _ q
  note_lines before (notes.Accepted f q bytes) sc (inl z) = any_left lined sc.seen _ z
  note_lines before (notes.Patched f q at bytes) sc (inl z) = any_left lined sc.seen _ z
  note_lines before n sc (inl q) = q
  note_lines before (notes.Accepted f q bytes) sc (inr z) = one_line sc.seen _ (own (is_page_at server ino p f q) z)
  note_lines before (notes.Patched f q at bytes) sc (inr z) = one_line sc.seen _ (own (is_page_at server ino p f q) z)
  note_lines before n sc (inr q) = cc q

  submit_lines : (o : Option WorldClient) (number : ℕ) (at : BlockAt) (what : Command) (sc : WorldTurn) → list_any lined sc.seen ≡ true →
      list_any lined (ev.submits sc c o number at what).seen ≡ true
  unfolding ev.submits
  submit_lines None number at what sc q = q
  submit_lines (Some site) number at what sc q = any_left lined sc.seen _ q

  pub output_lines : (before : ClientState) (o : Output) (sc : WorldTurn) → (list_any lined sc.seen ≡ true) ⊎ (says_change server ino p o ≡ true) →
      list_any lined (ev.client_says sc c before o).seen ≡ true
  unfolding ev.client_says ev.sends ev.answers_with
  output_lines before (outputs.Note n) sc h = note_lines before n sc h
  output_lines before (outputs.Send m) sc (inl q) = any_left lined sc.seen _ q
  output_lines before (outputs.Submit number at what) sc (inl q) = submit_lines (site_of sc.world c) number at what sc q
  output_lines before (outputs.Answer op a) sc (inl q) = any_left lined sc.seen _ q
  output_lines before (outputs.Send m) sc (inr q) = cc q
  output_lines before (outputs.Submit number at what) sc (inr q) = cc q
  output_lines before (outputs.Answer op a) sc (inr q) = cc q

  said_lines : (before : ClientState) (os : List Output) (sc : WorldTurn) → (list_any lined sc.seen ≡ true) ⊎ (list_any (says_change server ino p) os ≡ true) →
      list_any lined (ev.client_says_all c before os sc).seen ≡ true
  unfolding ev.client_says_all
  said_lines before [] sc (inl q) = q
  said_lines before [] sc (inr q) = cc q
  said_lines before (o ∷ os) sc (inl q) = said_lines before os (ev.client_says sc c before o) (inl (output_lines before o sc (inl q)))
  said_lines before (o ∷ os) sc (inr q) =
      said_lines before os (ev.client_says sc c before o) (go (says_change server ino p o) refl q)
    where
      go : (b : Bool) → says_change server ino p o ≡ b → (b || list_any (says_change server ino p) os) ≡ true →
          (list_any lined (ev.client_says sc c before o).seen ≡ true) ⊎ (list_any (says_change server ino p) os ≡ true)
      go true z k = inl (output_lines before o sc (inr z))
      go false z k = inr k

-- An event.
module _ (past : List Step) (t : Traced) (e : Event) (sc : WorldTurn) (lives : LivesHold t.world) where
  -- what was dirty as a client's step began
  pub begun_was : (c : ClientId) (s : SiteStep t.world sc c) (b : Association) → Has b s.after.node.state.associations → (ino : ℕ) (p : PageNo) →
      Begun (clock_of t.world (nodes.Client c)) s.site.node.state b.server ino p → WasDirty t.world c b ino p
  begun_was c s b i ino p k =
      record {
        site = s.site;
        there = s.there;
        runs = s.runs;
        a = k.a;
        has = k.has;
        server = k.its;
        life =
            ap (λ (x : Association). x.life) same ∙
            (z.2.lasts (ap (λ (x : Association). is_ended s.site.node.state.config (clock_of t.world (nodes.Client c)) x.session) (sym same) ∙ k.going)).0;
        page = k.page;
        dirty = k.dirty;
      }
    where
      n : NodeHolds t.world.config t.world.clocks t.world.ended c s.site.node
      n = lives.lives.sites c s.site s.there

      z : (a : Association) × Has a s.site.node.state.associations × LifeNext (clock_of t.world (nodes.Client c)) s.site.node.state a b
      z = stepped t.world e sc lives c s b i

      same : k.a ≡ z.0
      same =
          some_is
          (sym (own_found s.site.node.state.associations n.once k.a k.has)
          ∙ (ap (λ v. find (is_at v) s.site.node.state.associations) (k.its ∙ sym z.2.server)
          ∙ own_found s.site.node.state.associations n.once z.0 z.1))

  by_step : (c : ClientId) (s : SiteStep t.world sc c) (b : Association) → Has b s.after.node.state.associations → (ino : ℕ) (p : PageNo) (d : DirtyPage) →
      pages.dirty_of b.store.pages ino p ≡ Some d → WasDirty t.world c b ino p ⊎ (list_any (is_change_of c b.server ino p) sc.seen ≡ true)
  by_step c s b i ino p d q =
      go (step_from now s.site.node.state c s.input n.fit b (subst (λ (k : cl.ClientNode). Has b k.state.associations) s.node i) ino p d q)
    where
      now : Stamp
      now = clock_of t.world (nodes.Client c)

      n : NodeHolds t.world.config t.world.clocks t.world.ended c s.site.node
      n = lives.lives.sites c s.site s.there

      go : Begun now s.site.node.state b.server ino p ⊎
          (list_any (says_change b.server ino p) (cl.client_step s.site.node.state now s.input).out ≡ true) →
          WasDirty t.world c b ino p ⊎ (list_any (is_change_of c b.server ino p) sc.seen ≡ true)
      go (inr k) =
          inr (ap (list_any (is_change_of c b.server ino p)) s.says
          ∙ said_lines c b.server ino p s.site.node.state (cl.client_step s.site.node.state now s.input).out s.before (inr k))
      go (inl k) = inl (begun_was c s b i ino p k)

  no_page : (d : DirtyPage) → ◌≡◌ {A = Option DirtyPage} None (Some d) → ⊥
  no_page d z = cc

  pub changed_by : (c : ClientId) → SiteNext t.world e sc c → (site : WorldClient) (b : Association) (ino : ℕ) (p : PageNo) (d : DirtyPage) →
      site_of sc.world c ≡ Some site → site.node.running ≡ true → Has b site.node.state.associations → pages.dirty_of b.store.pages ino p ≡ Some d →
      WasDirty t.world c b ino p ⊎ (list_any (is_change_of c b.server ino p) sc.seen ≡ true)
  unfolding cl.start
  changed_by c (Stays q) site b ino p d there runs i k =
      inl (record { site = site; there = sym q ∙ there; runs = runs; a = b; has = i; server = refl; life = refl; page = d; dirty = k })
  changed_by c (Steps s r q) site b ino p d there runs i k =
      by_step c s b (subst (λ (z : WorldClient). Has b z.node.state.associations) (some_is (sym there ∙ s.left)) i) ino p d k
  changed_by c (Crashes old q left stopped) site b ino p d there runs i k =
      absurd (clash runs (ap (λ (z : WorldClient). z.node.running) (some_is (sym there ∙ left)) ∙ stopped))
  changed_by c (Starts old was stopped left) site b ino p d there runs i k =
      let z =
      has_map cl.started_association old.node.state.associations b
      (subst (λ (y : WorldClient). Has b y.node.state.associations) (some_is (sym there ∙ left)) i) in
      absurd (no_page d (ap (λ (y : Association). pages.dirty_of y.store.pages ino p) (sym z.2) ∙ k))

-- In every run.
record StandHold (past : List Step) (t : Traced) (it : Witness) : Type 0 where
  stand : Stand past t
  places : PlacesHold t.world

ChangedToo : List Step → Step → Witness → Type 0
ChangedToo past x it = DirtyPagesWereChanged past x

changed_hold : IsGiven (λ past x. PlacesHold x.after.world) StandHold ChangedToo
unfolding ChangedToo
changed_hold past t e sc it f g h = (
  λ c site b ino p d there runs i k.
      changed_by past t e sc h.stand.fates.lives c ((event_clients t.world e sc f).sites c) site b ino p d there runs i k,
  record { stand = (one_step past t e sc f h.places h.stand).stand; places = g },
)

pub dirty_pages_were_changed : InEveryRun DirtyPagesWereChanged
unfolding ChangedToo
dirty_pages_were_changed k clients servers disks blocks form es head events =
    given_in (λ past x. PlacesHold x.after.world) StandHold ChangedToo changed_hold es (traced (fresh_world k clients servers disks blocks form))
    (record { stand = fresh_stand k clients servers disks blocks form; places = fresh_places k clients servers disks blocks form })
    (places_law k clients servers disks blocks form es head)
