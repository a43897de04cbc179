-- A client's whole step, for its association with one server: the passes at each server in turn.
use Rattle.st_lemmas.proofs.Words
use Words.{◌≡◌, ℕ, ◌+◌, ◌≤◌, Bool, true, false, List, [], ◌∷◌, ◌++◌, ◌==◌, Some, refl, sym, ap, ◌∙◌, subst, inl, inr, if◌then◌else◌, arith, append_assoc, map}
use Words.{eqb-true, ServerId, Stamp, ClientId, Ask, AppAnswer, ClientInput, Header, Body, Output, Life, append-nil}
use Words.answers
use Words.inputs
use Words.ClientState as st
use Words.ClientState.{ClientSession, Turn, ClientTurn, ClientState, Association, enter, leave, at_these, at_each, with_associations}
use Words.Keys.{server_node}
use Words.ClientReplies as cr
use Words.ClientPasses as cp
use Words.Client as cl
use Words.Lists.{Has}
use Rattle.st_base.specs.declared.config.Config as base
use Rattle.st_protocol.specs.Assoc.{Config, no_row, Msg, msg, In, Stays}
use Rattle.st_protocol.specs.Assoc as net
use Rattle.st_laws_refine.specs.Views.Messages.{Fine, shown, Shows}
use Rattle.st_laws_refine.specs.Client.Invariants.{Beside, Said, Kept, Ready, Losses, Leaves, Frame, Result, Goes}
use Rattle.st_laws_refine.specs.Client.Law.{ReceivedOf, LifeEnds, Apart, Place, ClientResult, ClientStep, Comes, ClientStepsAreMoves, IsOver, LostLeasesAreOver}
use Rattle.st_laws_refine.proofs.Views.Moves.{lives_up, moves_on, shows_more}
use Rattle.st_laws_refine.proofs.Client.Goes.{losses_both, said_both, goes_same, goes_then, if_goes}
use Rattle.st_laws_refine.proofs.Client.Effects.{receive_goes}
use Rattle.st_laws_refine.proofs.Client.Reductions.{reductions_goes}
use Rattle.st_laws_refine.proofs.Client.Requests.{requests_goes, greeting_goes}
use Rattle.st_laws_refine.proofs.Client.Work.{operations_goes, writes_goes, finish_goes, take_goes}
use Rattle.st_laws_refine.proofs.Client.Losses.{lose_goes, lose_losses, lose_frame}

-- a rule at associations with other servers
pub record Passed (own : ServerId) (T U : ClientTurn) : Type 0 where
  pub added : List Association
  pub is : U.state.associations ≡ T.state.associations ++ added
  pub apart : Apart own added
  pub config : U.state.config ≡ T.state.config
  pub id_ : U.state.id.0 ≡ T.state.id.0
  pub said : (N : List Msg) → Said T.state.id.0 own T.out N → Said U.state.id.0 own U.out N

abbrev pub Framed : (Turn → Turn) → Type 0
Framed rule = (t : Turn) → Leaves t.id.0 (rule t).id.0 t.here.server (rule t).here.server t.config (rule t).config t.out (rule t).out

these_both : (rule : Turn → Turn) (xs ys : List Association) (T : ClientTurn) → at_these rule (xs ++ ys) T ≡ at_these rule ys (at_these rule xs T)
unfolding at_these
these_both rule [] ys T = refl
these_both rule (x ∷ xs) ys T = these_both rule xs ys (leave T (rule (enter T x)))

leaves : {id id2 : ℕ} {sv sv2 : ServerId} {c c2 : base.Config} {os os2 : List Output} → Frame id id2 sv sv2 c c2 os os2 → Leaves id id2 sv sv2 c c2 os os2
leaves f = record { id_ = f.id_; server = f.server; config = f.config; said = f.said }

passed : (own : ServerId) (rule : Turn → Turn) → Framed rule → (xs : List Association) (T : ClientTurn) → Apart own xs → Passed own T (at_these rule xs T)
unfolding at_these
passed own rule f [] T p = record { added = []; is = sym (append-nil T.state.associations); apart = record {}; config = refl; id_ = refl; said = λ N s. s }
passed own rule f (x ∷ xs) T p =
    let r : Turn = rule (enter T x) in
    let U : ClientTurn = leave T r in
    let q = passed own rule f xs U p.rest in
    let fr = f (enter T x) in
    record {
      added = r.here ∷ q.added;
      is = q.is ∙ append_assoc T.state.associations (r.here ∷ []) q.added;
      apart = record { one = λ e. p.one (e ∙ ap (λ v. server_node v) fr.server); rest = q.apart };
      config = q.config;
      id_ = q.id_;
      said = λ N s. q.said N (subst (λ i. Said i own r.out N) fr.id_ (fr.said own N p.one s));
    }

module _ (k : Config) (sv : Beside) (now : ℕ) (hs : List Msg) (own : ServerId) where
  -- other outputs, if nothing was said to this server
  ready_at : (T U : ClientTurn) (a : Association) (N : List Msg) → U.state.config ≡ T.state.config → a.server ≡ own → ((N : List Msg) → Said T.state.id.0 own T.out N → Said U.state.id.0 own U.out N) → Ready k now hs (enter T a) N → Ready k now hs (enter U a) N
  ready_at T U a N c e s r =
      record {
        terms = ap (λ (x : base.Config). x.lease) c ∙ r.terms;
        born = r.born;
        lasts = r.lasts;
        said = subst (λ x. Said U.state.id.0 x U.out N) (sym e) (s N (subst (λ x. Said T.state.id.0 x T.out N) e r.said));
        kept = r.kept;
        received = r.received;
      }

  -- the rule at each association
  pub each_once : (d : Beside) (rule : Turn → Turn) → Framed rule → (T : ClientTurn) (a : Association) (N : List Msg) (p : Place own T.state.associations a) →
      Result k sv d now hs (enter (at_these rule p.before (with_associations [] T)) a) (rule (enter (at_these rule p.before (with_associations [] T)) a)) N → ClientResult k sv d now hs own a (at_each rule T) N
  unfolding at_each at_these
  each_once d rule f T a N p r = subst (λ x. ClientResult k sv d now hs own a (at_these rule x (with_associations [] T)) N) (sym p.is)
      (subst (λ U. ClientResult k sv d now hs own a U N) (sym (these_both rule p.before (a ∷ p.after) (with_associations [] T))) whole)
    where
      V : ClientTurn
      V = at_these rule p.before (with_associations [] T)

      v : Passed own (with_associations [] T) V
      v = passed own rule f p.before (with_associations [] T) p.apart_before

      W : ClientTurn
      W = leave V (rule (enter V a))

      fr : Leaves V.state.id.0 (rule (enter V a)).id.0 a.server (rule (enter V a)).here.server V.state.config (rule (enter V a)).config V.out (rule (enter V a)).out
      fr = f (enter V a)

      w : Passed own W (at_these rule p.after W)
      w = passed own rule f p.after W p.apart_after

      whole : ClientResult k sv d now hs own a (at_these rule (a ∷ p.after) V) N
      whole = record {
        last = (rule (enter V a)).here;
        net = r.net;
        moves = r.moves;
        place = record { before = v.added; after = w.added; is = w.is ∙ ap (λ x. (x ++ (rule (enter V a)).here ∷ []) ++ w.added) v.is ∙ append_assoc v.added ((rule (enter V a)).here ∷ []) w.added; here = fr.server ∙ p.here; apart_before = v.apart; apart_after = w.apart };
        ready = ready_at W (at_these rule p.after W) (rule (enter V a)).here r.net w.config (fr.server ∙ p.here) w.said
            (record { terms = ap (λ (x : base.Config). x.lease) (sym fr.config) ∙ r.ready.terms; born = r.ready.born; lasts = r.ready.lasts; said = subst (λ i. Said i (rule (enter V a)).here.server (rule (enter V a)).out r.net) fr.id_ r.ready.said; kept = r.ready.kept; received = r.ready.received });
      }

  -- the turns before the rule, at this server
  at_own : (T : ClientTurn) (V : ClientTurn) (a : Association) (N : List Msg) → a.server ≡ own → Passed own (with_associations [] T) V → Ready k now hs (enter T a) N → Ready k now hs (enter V a) N
  at_own T V a N e v r = ready_at (with_associations [] T) V a N v.config e v.said (record { terms = r.terms; born = r.born; lasts = r.lasts; said = r.said; kept = r.kept; received = r.received })

  pub each_at : (rule : Turn → Turn) → Framed rule → (T : ClientTurn) (a : Association) (N : List Msg) → Place own T.state.associations a →
      ((V : ClientTurn) → Passed own (with_associations [] T) V → Result k sv sv now hs (enter V a) (rule (enter V a)) N) → ClientResult k sv sv now hs own a (at_each rule T) N
  each_at rule f T a N p go = each_once sv rule f T a N p (go (at_these rule p.before (with_associations [] T)) (passed own rule f p.before (with_associations [] T) p.apart_before))

  -- a rule that is moves
  pub each_goes_at : (rule : Turn → Turn) → Framed rule → (T : ClientTurn) (a : Association) (N : List Msg) → Place own T.state.associations a → Ready k now hs (enter T a) N →
      ((t : Turn) → t.here.server ≡ own → Goes k sv now hs t (rule t)) → ClientResult k sv sv now hs own a (at_each rule T) N
  each_goes_at rule f T a N p r g = each_at rule f T a N p (λ V v. (g (enter V a) p.here).go N (at_own T V a N p.here v r))

  result_same : (T : ClientTurn) (a : Association) (N : List Msg) → Place own T.state.associations a → Ready k now hs (enter T a) N → ClientResult k sv sv now hs own a T N
  result_same T a N p r = record { last = a; net = N; moves = Stays _; place = p; ready = r }

  result_then : (b : Beside) (a : Association) (T U : ClientTurn) (N : List Msg) (x : ClientResult k b sv now hs own a T N) → ((b : Association) (M : List Msg) → Place own T.state.associations b → Ready k now hs (enter T b) M → ClientResult k sv sv now hs own b U M) → ClientResult k b sv now hs own a U N
  result_then b a T U N x go = let y = go x.last x.net x.place x.ready in record { last = y.last; net = y.net; moves = moves_on x.moves y.moves; place = y.place; ready = y.ready }

  if_result : (a : Association) (N : List Msg) (b : Bool) (T U : ClientTurn) → (b ≡ true → ClientResult k sv sv now hs own a T N) → (b ≡ false → ClientResult k sv sv now hs own a U N) → ClientResult k sv sv now hs own a (if b then T else U) N
  if_result a N true T U p q = p refl
  if_result a N false T U p q = q refl

shows_self : (life epoch stamp : ℕ) (bs : List net.Body) → Shows life epoch stamp bs (map (msg life epoch stamp) bs)
shows_self life epoch stamp [] = record {}
shows_self life epoch stamp (b ∷ bs) = record { one = inl refl; rest = shows_more life epoch stamp bs _ _ (λ m i. inr i) (shows_self life epoch stamp bs) }

module _ (k : Config) (sv : Beside) (now : Stamp) (hs : List Msg) (own : ServerId) where
  passes_goes : (tick : Bool) (t : Turn) → Goes k sv now.0 hs t (cp.passes now tick t)
  unfolding cp.passes
  passes_goes tick t =
      let u : Turn = cp.operations now t in
      let v : Turn = cp.reductions u in
      let w : Turn = cp.writes now tick v in
      let x : Turn = cp.greeting now tick w in
      goes_then k sv now.0 hs t u _ (operations_goes k sv now.0 hs now t)
      (goes_then k sv now.0 hs u v _ (reductions_goes k sv now.0 hs u)
      (goes_then k sv now.0 hs v w _ (writes_goes k sv now.0 hs now tick v)
      (goes_then k sv now.0 hs w x _ (greeting_goes k sv now hs w tick) (requests_goes k sv now hs x tick))))

  receive_frame : (h : Header) (body : Body) → ((x : ServerId) → h.from ≡ server_node x → Fine body) → Framed (cr.receive_at now h body)
  receive_frame h body f t = leaves (receive_goes k sv now.0 (map (msg h.life h.epoch h.stamp) (shown h.number body)) t now h body refl (λ e. f t.here.server e) (λ e. shows_self h.life h.epoch h.stamp (shown h.number body))).frame

  only_goes : (s : ServerId) (op : ℕ) (ask : Ask) (t : Turn) → Goes k sv now.0 hs t (st.only_at s (cl.take_ask op ask) t)
  unfolding st.only_at
  only_goes s op ask t = if_goes k sv now.0 hs t (st.is_at s t.here) _ t (λ h. take_goes k sv now.0 hs op ask t) (λ h. goes_same k sv now.0 hs t)

  at_once : (T : ClientTurn) (op : ℕ) (x : AppAnswer) (a : Association) (N : List Msg) → Place own T.state.associations a → Ready k now.0 hs (enter T a) N → ClientResult k sv sv now.0 hs own a (cl.answered_at_once T op x) N
  at_once T op x a N p r = record { last = a; net = N; moves = Stays _; place = p; ready = record { terms = r.terms; born = r.born; lasts = r.lasts; said = said_both T.state.id.0 a.server T.out _ N r.said (record {}); kept = r.kept; received = r.received } }

  input_goes : (T : ClientTurn) (input : ClientInput) (a : Association) (N : List Msg) → Place own T.state.associations a → Ready k now.0 hs (enter T a) N → Comes own T.state.id.0 input hs → ClientResult k sv sv now.0 hs own a (cl.take_input T now input) N
  unfolding cl.take_input cl.app cl.app_known cl.done cr.receive cr.receive_here
  input_goes T inputs.Tick a N p r c = result_same k sv now.0 hs own T a N p r
  input_goes T (inputs.App op ask) a N p r c =
      if_result k sv now.0 hs own a N (cl.is_full T.state) _ _ (λ h. at_once T op answers.OpsFull a N p r)
      (λ h. if_result k sv now.0 hs own a N (cl.is_configured T.state (st.server_of ask)) _ _
      (λ e. each_goes_at k sv now.0 hs own (st.only_at (st.server_of ask) (cl.take_ask op ask)) (λ t. leaves (only_goes (st.server_of ask) op ask t).frame) T a N p r (λ t q. only_goes (st.server_of ask) op ask t))
      (λ e. at_once T op answers.NoFile a N p r))
  input_goes T (inputs.Control m) a N p r c =
      if_result k sv now.0 hs own a N (m.header.to == T.state.id.0) _ T
      (λ h. each_goes_at k sv now.0 hs own (cr.receive_at now m.header m.body) (receive_frame m.header m.body c.fine) T a N p r
      (λ t q. receive_goes k sv now.0 hs t now m.header m.body refl (λ e. c.fine t.here.server e) (λ e. c.shows (e ∙ ap (λ v. server_node v) q) (eqb-true _ _ h))))
      (λ h. result_same k sv now.0 hs own T a N p r)
  input_goes T (inputs.Done number result) a N p r c = each_goes_at k sv now.0 hs own (cl.finish number result) (λ t. leaves (finish_goes k sv now.0 hs number result t).frame) T a N p r (λ t q. finish_goes k sv now.0 hs number result t)

  losses_go : (s : ClientState) (a : Association) (N : List Msg) → s.config.lease ≡ k.lease → Place own s.associations a → 1 ≤ a.life.0 → Kept a.life.0 a.store a.session N → ((m : Msg) → In m hs → In m N) → ClientStep k sv now.0 hs own a (cl.losses (st.client_turn s []) now) N
  unfolding cl.losses each_once cl.lose
  losses_go s a N le p pos kept g =
      let T : ClientTurn = st.client_turn s [] in
      let V : ClientTurn = at_these (cl.lose now) p.before (with_associations [] T) in
      let v : Passed own (with_associations [] T) V = passed own (cl.lose now) (lose_frame now) p.before (with_associations [] T) p.apart_before in
      let l = lose_goes k sv now hs (enter V a) N (record { terms = ap (λ (x : base.Config). x.lease) v.config ∙ le; born = pos; said = subst (λ x. Said V.state.id.0 x V.out N) (sym p.here) (v.said N (record {})); kept = kept; received = g }) in
      record { ended = l.ended; ends = l.ends; result = each_once k sv now.0 hs own (record { s = sv.s; ended = l.ended }) (cl.lose now) (lose_frame now) T a N p l.result }

  -- the id stays
  these_id : (rule : Turn → Turn) (list : List Association) (T : ClientTurn) → (at_these rule list T).state.id ≡ T.state.id
  unfolding at_these
  these_id rule [] T = refl
  these_id rule (x ∷ xs) T = these_id rule xs (leave T (rule (enter T x)))

  taken : (s : ClientState) (input : ClientInput) (T : ClientTurn) (b : Association) (M : List Msg) → T.state.id ≡ s.id → Comes own s.id.0 input hs → Place own T.state.associations b → Ready k now.0 hs (enter T b) M →
      ClientResult k sv sv now.0 hs own b (at_each (cp.passes now (cl.is_tick input)) (cl.take_input T now input)) M
  taken s input T b M is c pb rb =
      let U : ClientTurn = cl.take_input T now input in
      result_then k sv now.0 hs own sv b U _ M (input_goes T input b M pb rb (subst (λ (i : ClientId). Comes own i.0 input hs) (sym is) c))
      (λ d L pd rd. each_goes_at k sv now.0 hs own (cp.passes now (cl.is_tick input)) (λ t. leaves (passes_goes (cl.is_tick input) t).frame) U d L pd rd (λ t q. passes_goes (cl.is_tick input) t))

  -- a life is lost only if its lease is over
  if_losses : (P : ServerId → Life → Type 0) (b : Bool) (T U : ClientTurn) → (b ≡ true → Losses P T.out) → (b ≡ false → Losses P U.out) → Losses P (if b then T else U).out
  if_losses P true T U p q = p refl
  if_losses P false T U p q = q refl

  these_losses : (P : ServerId → Life → Type 0) (rule : Turn → Turn) → ((t : Turn) → Losses P t.out → Losses P (rule t).out) → (xs : List Association) (T : ClientTurn) → Losses P T.out → Losses P (at_these rule xs T).out
  unfolding at_these
  these_losses P rule f [] T l = l
  these_losses P rule f (x ∷ xs) T l = these_losses P rule f xs (leave T (rule (enter T x))) (f (enter T x) l)

  each_losses : (P : ServerId → Life → Type 0) (rule : Turn → Turn) → ((t : Turn) → Losses P t.out → Losses P (rule t).out) → (T : ClientTurn) → Losses P T.out → Losses P (at_each rule T).out
  unfolding at_each
  each_losses P rule f T l = these_losses P rule f T.state.associations (with_associations [] T) l

  lost_these : (P : ServerId → Life → Type 0) (lease : ℕ) (xs : List Association) (T : ClientTurn) → T.state.config.lease ≡ lease →
      ((x : Association) → Has x xs → (s : ClientSession) → x.session ≡ Some s → s.lease.date.0 + lease ≤ now.0 → P x.server x.life) → Losses P T.out → Losses P (at_these (cl.lose now) xs T).out
  unfolding at_these
  lost_these P lease [] T c f l = l
  lost_these P lease (x ∷ xs) T c f l =
      lost_these P lease xs (leave T (cl.lose now (enter T x))) c (λ y h s e o. f y (inr h) s e o)
      (lose_losses P now (enter T x) (λ s e o. f x (inl refl) s e (subst (λ n. s.lease.date.0 + n ≤ now.0) c o)) l)

  input_losses : (P : ServerId → Life → Type 0) (T : ClientTurn) (input : ClientInput) → ReceivedOf input → Losses P T.out → Losses P (cl.take_input T now input).out
  unfolding cl.take_input cl.app cl.app_known cl.done cr.receive cr.receive_here
  input_losses P T inputs.Tick f l = l
  input_losses P T (inputs.App op ask) f l =
      if_losses P (cl.is_full T.state) _ _ (λ h. losses_both P T.out _ l (record {}))
      (λ h. if_losses P (cl.is_configured T.state (st.server_of ask)) _ _
      (λ e. each_losses P (st.only_at (st.server_of ask) (cl.take_ask op ask)) (λ t. (only_goes (st.server_of ask) op ask t).frame.lost P) T l) (λ e. losses_both P T.out _ l (record {})))
  input_losses P T (inputs.Control m) f l =
      if_losses P (m.header.to == T.state.id.0) _ T
      (λ h. each_losses P (cr.receive_at now m.header m.body) (λ t. (receive_goes k sv now.0 (map (msg m.header.life m.header.epoch m.header.stamp) (shown m.header.number m.body)) t now m.header m.body refl (λ e. f t.here.server e) (λ e. shows_self m.header.life m.header.epoch m.header.stamp (shown m.header.number m.body))).frame.lost P) T l)
      (λ h. l)
  input_losses P T (inputs.Done number result) f l = each_losses P (cl.finish number result) (λ t. (finish_goes k sv now.0 hs number result t).frame.lost P) T l

  pub step_losses : (P : ServerId → Life → Type 0) (s : ClientState) (input : ClientInput) → ReceivedOf input → ((x : Association) → Has x s.associations → (ss : ClientSession) → x.session ≡ Some ss → ss.lease.date.0 + s.config.lease ≤ now.0 → P x.server x.life) → Losses P (cl.client_step s now input).out
  unfolding cl.client_step cl.work cl.losses at_each
  step_losses P s input f h =
      let T : ClientTurn = cl.losses (st.client_turn s []) now in
      let l : Losses P T.out = lost_these P s.config.lease s.associations (with_associations [] (st.client_turn s [])) refl h (record {}) in
      each_losses P (cp.passes now (cl.is_tick input)) (λ t. (passes_goes (cl.is_tick input) t).frame.lost P) (cl.take_input T now input) (input_losses P T input f l)

later : (k : Config) (now : ℕ) (a : Association) (l m : ℕ) (e f : ℕ → ℕ) → l ≤ m → LifeEnds k now a l e f → LifeEnds k now a m e f
later k now a l m e f h (inl x) = inl (record { lasts = x.lasts; same = x.same; life = let z = x.life in omega arith })
later k now a l m e f h (inr x) = inr (record { ended = x.ended; life = let z = x.life in omega arith })

-- a step of a client is, for its association with this server, a list of moves, and what held before it holds after it
pub step_moves : (k : Config) (sv : Beside) (now : Stamp) (hs : List Msg) (own : ServerId) (s : ClientState) (input : ClientInput) (a : Association) (N : List Msg) → s.config.lease ≡ k.lease → Place own s.associations a → 1 ≤ a.life.0 → Kept a.life.0 a.store a.session N → Comes own s.id.0 input hs → ((m : Msg) → In m hs → In m N) →
    ClientStep k sv now.0 hs own a (cl.client_step s now input) N
unfolding cl.client_step cl.work cl.losses at_each result_then
step_moves k sv now hs own s input a N le p pos kept c g =
    let T : ClientTurn = cl.losses (st.client_turn s []) now in
    let l = losses_go k sv now hs own s a N le p pos kept g in
    let d : Beside = record { s = sv.s; ended = l.ended } in
    let r : ClientResult k sv d now.0 hs own a (cl.client_step s now input) N = result_then k d now.0 hs own sv a T _ N l.result (λ b M pb rb. taken k d now hs own s input T b M (these_id k sv now hs own (cl.lose now) s.associations _) c pb rb) in
    record { ended = l.ended; result = r; ends = later k now.0 a l.result.last.life.0 r.last.life.0 sv.ended l.ended (lives_up (taken k d now hs own s input T l.result.last l.result.net (these_id k sv now hs own (cl.lose now) s.associations _) c l.result.place l.result.ready).moves) l.ends }

pub client_steps_are_moves : ClientStepsAreMoves
client_steps_are_moves k sv now hs own s input a N le p pos kept c g = step_moves k sv now hs own s input a N le p pos kept c g

-- a life is lost only if its lease is over; of the machine's settings and server nothing is needed
any_config : Config
any_config = record { lease = 0; num = 0; den = 0; wait = 0; grain = 0 }

any_server : net.Server
any_server =
    record { clock = 0; drift = 0; up = false; epoch = 0; grace = false; gstart = 0; gbase = 0; glife = 0; session = 0; live = false; row = λ i. no_row; timed = false; start = 0; base = 0; top = 0 }

pub lost_law : LostLeasesAreOver
lost_law now s input f =
    step_losses any_config (record { s = any_server; ended = λ l. 0 }) now [] (record { 0 = 0 }) (IsOver now s) s input f
    (λ x h ss e o. record { association = x; session = ss; listed = h; there = refl; alive = refl; held = e; over = o })
