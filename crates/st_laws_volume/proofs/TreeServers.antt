-- What a server does with a request for a name is what the ask makes of its tree.
use Rattle.std.proofs.Common.{◌≡◌, ◌⊎◌, inl, inr, arith, ℕ, zero, suc, Bool, true, false, not, ◌&&◌, ◌==◌, List, [], ◌∷◌, ◌++◌, Option, Some, None, Ok, Err, refl, sym, ap, ◌∙◌, subst, if◌then◌else◌}
use Rattle.std.specs.Prelude.{bytes_eq, cond, is_some, Result}
use Rattle.std.proofs.lemmas.Bool.{eqb-true, ne_eqb}
use Rattle.std.proofs.lemmas.Slice.Eq.{bytes_eq-Decides}
use Rattle.st_base.specs.declared.ids.GrantNo.{GrantNo}
use Rattle.st_base.specs.declared.ids.ClientId.{ClientId}
use Rattle.st_base.specs.declared.ids.Life.{Life}
use Rattle.st_base.specs.declared.ids.PageNo.{PageNo}
use Rattle.st_base.specs.declared.ids.Stamp.{Stamp}
use Rattle.st_base.specs.declared.mode.Mode.{Mode}
use Rattle.st_base.specs.declared.mode.Mode.TheVariants as modes
use Rattle.st_base.specs.declared.names.NameAsk.{NameAsk}
use Rattle.st_base.specs.declared.names.NameAsk.TheVariants as asked
use Rattle.st_base.specs.declared.names.NameRow.{NameRow}
use Rattle.st_messages.specs.declared.answer.AppAnswer.{AppAnswer}
use Rattle.st_messages.specs.declared.answer.AppAnswer.TheVariants as answers
use Rattle.st_messages.specs.declared.message.Body.{Body}
use Rattle.st_messages.specs.declared.message.Body.TheVariants as bodies
use Rattle.st_messages.specs.declared.message.Header.{Header}
use Rattle.st_messages.specs.declared.message.Message.{Message}
use Rattle.st_messages.specs.declared.message.NameOp.{NameOp}
use Rattle.st_messages.specs.declared.message.NameOp.TheVariants as ops
use Rattle.st_messages.specs.declared.message.NameReply.{NameReply}
use Rattle.st_rules.specs.declared.input.ServerInput.TheVariants.{Control}
use Rattle.st_rules.specs.declared.names.EntryRefusal.{EntryRefusal}
use Rattle.st_rules.specs.declared.names.EntryRefusal.TheVariants as refusals
use Rattle.st_rules.specs.declared.sessions.Session.{Session}
use Rattle.st_rules.specs.declared.sessions.Taken.{Taken}
use Rattle.st_rules.specs.declared.sessions.Taken.TheVariants as takes
use Rattle.st_rules.specs.Authority as authority
use Rattle.st_rules.specs.ClientPasses.{name_op}
use Rattle.st_rules.specs.ClientReplies.{name_answer}
use Rattle.st_rules.specs.Names as names
use Rattle.st_rules.specs.Names.{Names}
use Rattle.st_rules.specs.Server as sv
use Rattle.st_rules.specs.Server.{Replied, ServerState, ServerTurn, Stable}
use Rattle.st_rules.specs.Sessions as sessions
use Rattle.st_lemmas.proofs.Lookups.{if_false, if_true}
use Rattle.st_lemmas.proofs.Tables.{and_true, not_true}
use Rattle.st_laws_volume.specs.TreeNames.{IsSound, as_changed, as_found, as_listed, tree_of}
use Rattle.st_laws_volume.specs.Witness.{is_done_as, is_fresh, is_in_turn, is_name_for, same_text, serves}
use Rattle.st_laws_volume.proofs.TreeAnswers.{does_the_same}
use Rattle.st_laws_volume.proofs.TreeSound.{stay_sound}
use Rattle.st_volume.specs.Trees.{Made, Tree, does}

-- What an ask makes: this tree and this answer, if anything.
abbrev pub MadeOr : Option Made → Tree → AppAnswer → Type 0
MadeOr None t a = Unit {0}
MadeOr (Some m) t a = (m.0 ≡ t) × (m.1.0 ≡ a)

-- by the reply: names that are asked say so, and otherwise stay
abbrev pub ByReply : Names → NameAsk → Names → Option Body → Type 0
ByReply n ask m (Some (bodies.Named reply)) = MadeOr (does (tree_of n) ask) (tree_of m) (name_answer reply)
ByReply n ask m reply = m ≡ n

abbrev pub IsOutcome : Names → NameAsk → Replied → Type 0
IsOutcome n ask r = ByReply n ask r.turn.state.stable.names r.reply

made_by : (o : Option Made) (t : Tree) (a : AppAnswer) (removed : Option ℕ) → o ≡ Some (t, (a, removed)) → MadeOr o t a
made_by o t a removed e = subst (λ x. MadeOr x t a) (sym e) (refl, refl)

-- a remove names a grant if it means a file
abbrev pub Pairs : NameAsk → GrantNo → Type 0
Pairs (asked.Remove dir name ino) g = (if ino == 0 then g.0 == 0 else not (g.0 == 0)) ≡ true
Pairs ask g = Unit {0}

module _ (t : ServerTurn) (s : IsSound t.state.stable.names) where
  abbrev n : Names
  n = t.state.stable.names

  refusal : (ask : NameAsk) (r : EntryRefusal) → does (tree_of n) ask ≡ Some (tree_of n, (answers.Refused (names.code_of r), None)) →
      IsOutcome n ask (sv.name_refused t r)
  unfolding sv.name_refused
  refusal ask r e = made_by (does (tree_of n) ask) (tree_of n) (answers.Refused (names.code_of r)) None e

  changing : (ask : NameAsk) (removed : Option ℕ) (r : Result names.Changed EntryRefusal) → does (tree_of n) ask ≡ as_changed n removed r →
      IsOutcome n ask (sv.name_changed t r)
  unfolding sv.name_changed
  changing ask removed (Ok d) e = made_by (does (tree_of n) ask) (tree_of d.names) (answers.Named d.ino) removed e
  changing ask removed (Err r) e = refusal ask r e

  finding : (ask : NameAsk) (r : Result ℕ EntryRefusal) → does (tree_of n) ask ≡ as_found n r → IsOutcome n ask (sv.name_found t r)
  unfolding sv.name_found
  finding ask (Ok ino) e = made_by (does (tree_of n) ask) (tree_of n) (answers.Named ino) None e
  finding ask (Err r) e = refusal ask r e

  listing : (ask : NameAsk) (r : Result (List NameRow) EntryRefusal) → does (tree_of n) ask ≡ as_listed n r → IsOutcome n ask (sv.names_listed t r)
  unfolding sv.names_listed
  listing ask (Ok rows) e = made_by (does (tree_of n) ask) (tree_of n) (answers.Listed rows) None e
  listing ask (Err r) e = refusal ask r e

  -- a file is removed
  removed : (ask : NameAsk) (ino : ℕ) (r : Result names.Changed EntryRefusal) → does (tree_of n) ask ≡ as_changed n (Some ino) r →
      IsOutcome n ask (sv.remove_by t r)
  unfolding sv.remove_by sv.cut_whole sv.cut_pages
  removed ask ino (Ok d) e = made_by (does (tree_of n) ask) (tree_of d.names) (answers.Named d.ino) (Some ino) e
  removed ask ino (Err r) e = refusal ask r e

  -- another file has the name: the ask has no effect
  other : (ask : NameAsk) (r : Result names.Changed EntryRefusal) → does (tree_of n) ask ≡ None → IsOutcome n ask (sv.remove_by t r)
  unfolding sv.remove_by sv.name_refused sv.cut_whole sv.cut_pages
  other ask (Ok d) e = subst (λ x. MadeOr x (tree_of d.names) (answers.Named d.ino)) (sym e) tt
  other ask (Err r) e = subst (λ x. MadeOr x (tree_of n) (answers.Refused (names.code_of r))) (sym e) tt

  remove_file : (h : Header) (dir : ℕ) (name : List ℕ) (ino there : ℕ) (g : GrantNo) → names.lookup n dir name ≡ Ok there → names.is_file n there ≡ true →
      IsOutcome n (asked.Remove dir name ino) (sv.remove_file t h dir name g there)
  unfolding sv.remove_file sv.not_holder
  remove_file h dir name ino there g q f = held (sv.holds t h there g modes.X)
    where
      by : (b : Bool) → (there == ino) ≡ b → IsOutcome n (asked.Remove dir name ino) (sv.remove_by t (names.remove n dir name))
      by true e =
          let i = eqb-true there ino e in
          removed (asked.Remove dir name ino) ino (names.remove n dir name)
          ((does_the_same n s).remove_file dir name ino (q ∙ ap (λ k. Ok k) i) (ap (names.is_file n) (sym i) ∙ f))
      by false e = other (asked.Remove dir name ino) (names.remove n dir name) ((does_the_same n s).remove_other dir name ino there q f e)

      held : (b : Bool) →
          IsOutcome n (asked.Remove dir name ino) (if b then sv.remove_by t (names.remove n dir name) else sv.not_holder t there g)
      held true = by (there == ino) refl
      held false = refl

  remove_dir : (dir : ℕ) (name : List ℕ) (ino there : ℕ) (g : GrantNo) → names.lookup n dir name ≡ Ok there → names.is_file n there ≡ false →
      Pairs (asked.Remove dir name ino) g → IsOutcome n (asked.Remove dir name ino) (sv.remove_dir t dir name g)
  unfolding sv.remove_dir
  remove_dir dir name zero there g q f p =
      subst (λ b. IsOutcome n (asked.Remove dir name 0) (if b then sv.name_changed t (names.remove n dir name) else sv.name_refused t refusals.IsDir)) (sym p)
      (changing (asked.Remove dir name 0) None (names.remove n dir name) ((does_the_same n s).remove_directory dir name there q f))
  remove_dir dir name (suc ino) there g q f p =
      subst
      (λ b. IsOutcome n (asked.Remove dir name (suc ino)) (if b then sv.name_changed t (names.remove n dir name) else sv.name_refused t refusals.IsDir))
      (sym (not_true (g.0 == 0) (sym (if_false (suc ino == 0) (g.0 == 0) (not (g.0 == 0)) (ne_eqb (suc ino) 0 (λ z. absurd (no z)))) ∙ p)))
      (refusal (asked.Remove dir name (suc ino)) refusals.IsDir ((does_the_same n s).remove_refused dir name ino there q f))
    where
      no : suc ino ≡ 0 → ⊥
      no z = omega (arith, z)

  removing : (h : Header) (dir : ℕ) (name : List ℕ) (ino : ℕ) (g : GrantNo) → Pairs (asked.Remove dir name ino) g → (r : Result ℕ EntryRefusal) →
      names.lookup n dir name ≡ r → IsOutcome n (asked.Remove dir name ino) (sv.remove_found t h dir name g r)
  unfolding sv.remove_found sv.remove_ino
  removing h dir name ino g p (Err r) q = refusal (asked.Remove dir name ino) r ((does_the_same n s).remove_nothing dir name ino r q)
  removing h dir name ino g p (Ok there) q = go (sv.is_file t there) refl
    where
      go : (b : Bool) → sv.is_file t there ≡ b →
          IsOutcome n (asked.Remove dir name ino) (if b then sv.remove_file t h dir name g there else sv.remove_dir t dir name g)
      go true f = remove_file h dir name ino there g q f
      go false f = remove_dir dir name ino there g q f p

  -- the rule of a request for a name
  named : (h : Header) (ask : NameAsk) (g : GrantNo) → Pairs ask g → IsOutcome n ask (sv.name t h (name_op ask g))
  unfolding sv.name sv.remove
  named h (asked.Lookup dir name) g p = finding (asked.Lookup dir name) (names.lookup n dir name) ((does_the_same n s).lookup dir name)
  named h (asked.Create dir name) g p = changing (asked.Create dir name) None (names.create n dir name) ((does_the_same n s).create dir name)
  named h (asked.Mkdir dir name) g p = changing (asked.Mkdir dir name) None (names.mkdir n dir name) ((does_the_same n s).mkdir dir name)
  named h (asked.Remove dir name ino) g p = removing h dir name ino g p (names.lookup n dir name) refl
  named h (asked.Rename dir name dir2 name2) g p =
      changing (asked.Rename dir name dir2 name2) None (names.rename n dir name dir2 name2) ((does_the_same n s).rename dir name dir2 name2)
  named h (asked.List dir after) g p = listing (asked.List dir after) (names.list n dir after) ((does_the_same n s).list dir after)

-- A request that is for an ask.
pub text_is : (dir dir2 : ℕ) (name name2 : List ℕ) → same_text dir name dir2 name2 ≡ true → (dir ≡ dir2) × (name ≡ name2)
text_is dir dir2 name name2 q =
    let b = and_true (dir == dir2) (bytes_eq name name2) q in (eqb-true dir dir2 b.0, (bytes_eq-Decides name name2).0 b.1)

record OpIs (ask : NameAsk) (op : NameOp) : Type 0 where
  g : GrantNo
  is : op ≡ name_op ask g
  pairs : Pairs ask g

no_grant : GrantNo
no_grant = record { 0 = 0 }

op_is : (ask : NameAsk) (op : NameOp) → is_name_for ask op ≡ true → OpIs ask op
op_is (asked.Lookup dir name) (ops.Lookup d x) q =
    let z = text_is dir d name x q in
    record { g = no_grant; is = ap (λ k. ops.Lookup k x) (sym z.0) ∙ ap (ops.Lookup dir) (sym z.1); pairs = tt }
op_is (asked.Create dir name) (ops.Create d x) q =
    let z = text_is dir d name x q in
    record { g = no_grant; is = ap (λ k. ops.Create k x) (sym z.0) ∙ ap (ops.Create dir) (sym z.1); pairs = tt }
op_is (asked.Mkdir dir name) (ops.Mkdir d x) q =
    let z = text_is dir d name x q in
    record { g = no_grant; is = ap (λ k. ops.Mkdir k x) (sym z.0) ∙ ap (ops.Mkdir dir) (sym z.1); pairs = tt }
op_is (asked.Remove dir name ino) (ops.Remove d x g) q =
    let b = and_true (same_text dir name d x) (if ino == 0 then g.0 == 0 else not (g.0 == 0)) q in
    let z = text_is dir d name x b.0 in
    record { g = g; is = ap (λ k. ops.Remove k x g) (sym z.0) ∙ ap (λ k. ops.Remove dir k g) (sym z.1); pairs = b.1 }
op_is (asked.Rename dir name dir2 name2) (ops.Rename d x d2 x2) q =
    let b = and_true (same_text dir name d x) (same_text dir2 name2 d2 x2) q in
    let y = text_is dir d name x b.0 in
    let z = text_is dir2 d2 name2 x2 b.1 in
    record {
      g = no_grant;
      is =
          ap (λ k. ops.Rename k x d2 x2) (sym y.0)
          ∙ (ap (λ k. ops.Rename dir k d2 x2) (sym y.1) ∙ (ap (λ k. ops.Rename dir name k x2) (sym z.0) ∙ ap (ops.Rename dir name dir2) (sym z.1)));
      pairs = tt;
    }
op_is (asked.List dir after) (ops.List d x) q =
    let z = text_is dir d after x q in
    record { g = no_grant; is = ap (λ k. ops.List k x) (sym z.0) ∙ ap (ops.List dir) (sym z.1); pairs = tt }
op_is ask op q = cc

pub named_for : (t : ServerTurn) → IsSound t.state.stable.names → (h : Header) (ask : NameAsk) (op : NameOp) → is_name_for ask op ≡ true →
    IsOutcome t.state.stable.names ask (sv.name t h op)
named_for t s h ask op q = let z = op_is ask op q in subst (λ o. IsOutcome t.state.stable.names ask (sv.name t h o)) (sym z.is) (named t s h ask z.g z.pairs)

-- A reply that isn't of names leaves them.
abbrev pub StaysUnless : Names → Names → Option Body → Type 0
StaysUnless n m (Some (bodies.Named reply)) = Unit {0}
StaysUnless n m reply = m ≡ n

abbrev Stays : ServerTurn → Replied → Type 0
Stays t r = StaysUnless t.state.stable.names r.turn.state.stable.names r.reply

found_stays : (t : ServerTurn) (r : Result ℕ EntryRefusal) → Stays t (sv.name_found t r)
unfolding sv.name_found sv.name_refused
found_stays t (Ok ino) = tt
found_stays t (Err r) = tt

changed_stays : (t : ServerTurn) (r : Result names.Changed EntryRefusal) → Stays t (sv.name_changed t r)
unfolding sv.name_changed sv.name_refused
changed_stays t (Ok d) = tt
changed_stays t (Err r) = tt

listed_stays : (t : ServerTurn) (r : Result (List NameRow) EntryRefusal) → Stays t (sv.names_listed t r)
unfolding sv.names_listed sv.name_refused
listed_stays t (Ok rows) = tt
listed_stays t (Err r) = tt

removed_stays : (t : ServerTurn) (h : Header) (dir : ℕ) (name : List ℕ) (g : GrantNo) (r : Result ℕ EntryRefusal) → Stays t (sv.remove_found t h dir name g r)
unfolding sv.remove_found sv.remove_ino sv.remove_file sv.remove_dir sv.remove_by sv.name_refused sv.not_holder
removed_stays t h dir name g (Err r) = tt
removed_stays t h dir name g (Ok there) = kind (sv.is_file t there)
  where
    by : (r : Result names.Changed EntryRefusal) → Stays t (sv.remove_by t r)
    by (Ok d) = tt
    by (Err r) = tt

    held : (b : Bool) → Stays t (if b then sv.remove_by t (names.remove t.state.stable.names dir name) else sv.not_holder t there g)
    held true = by (names.remove t.state.stable.names dir name)
    held false = refl

    none : (b : Bool) → Stays t (if b then sv.name_changed t (names.remove t.state.stable.names dir name) else sv.name_refused t refusals.IsDir)
    none true = changed_stays t (names.remove t.state.stable.names dir name)
    none false = tt

    kind : (b : Bool) → Stays t (if b then sv.remove_file t h dir name g there else sv.remove_dir t dir name g)
    kind true = held (sv.holds t h there g modes.X)
    kind false = none (g.0 == 0)

pub name_stays : (t : ServerTurn) (h : Header) (op : NameOp) → Stays t (sv.name t h op)
unfolding sv.name sv.remove
name_stays t h (ops.Lookup dir n) = found_stays t (names.lookup t.state.stable.names dir n)
name_stays t h (ops.Create dir n) = changed_stays t (names.create t.state.stable.names dir n)
name_stays t h (ops.Mkdir dir n) = changed_stays t (names.mkdir t.state.stable.names dir n)
name_stays t h (ops.Remove dir n g) = removed_stays t h dir n g (names.lookup t.state.stable.names dir n)
name_stays t h (ops.Rename dir n dir2 n2) = changed_stays t (names.rename t.state.stable.names dir n dir2 n2)
name_stays t h (ops.List dir after) = listed_stays t (names.list t.state.stable.names dir after)

pub stays_by : (op : NameOp) (n m : Names) (o : Option Body) → StaysUnless n m o → is_done_as (bodies.Name op) o ≡ false → m ≡ n
stays_by op n m (Some (bodies.Named reply)) h q = cc
stays_by op n m o h q = h

pub named_by : (op : NameOp) (o : Option Body) → is_done_as (bodies.Name op) o ≡ true → (reply : NameReply) × (o ≡ Some (bodies.Named reply))
named_by op (Some (bodies.Named reply)) q = (reply, refl)
named_by op o q = cc

-- A change of names that a server makes keeps them sound.
abbrev SoundOf : Replied → Type 0
SoundOf r = IsSound r.turn.state.stable.names

found_sound : (t : ServerTurn) → IsSound t.state.stable.names → (r : Result ℕ EntryRefusal) → SoundOf (sv.name_found t r)
unfolding sv.name_found sv.name_refused
found_sound t s (Ok ino) = s
found_sound t s (Err r) = s

listed_sound : (t : ServerTurn) → IsSound t.state.stable.names → (r : Result (List NameRow) EntryRefusal) → SoundOf (sv.names_listed t r)
unfolding sv.names_listed sv.name_refused
listed_sound t s (Ok rows) = s
listed_sound t s (Err r) = s

changed_sound : (t : ServerTurn) → IsSound t.state.stable.names → (r : Result names.Changed EntryRefusal) →
    ((d : names.Changed) → r ≡ Ok d → IsSound d.names) → SoundOf (sv.name_changed t r)
unfolding sv.name_changed sv.name_refused
changed_sound t s (Ok d) h = h d refl
changed_sound t s (Err r) h = s

removed_sound : (t : ServerTurn) → IsSound t.state.stable.names → (h : Header) (dir : ℕ) (name : List ℕ) (g : GrantNo) (r : Result ℕ EntryRefusal) →
    SoundOf (sv.remove_found t h dir name g r)
unfolding sv.remove_found sv.remove_ino sv.remove_file sv.remove_dir sv.remove_by sv.name_refused sv.not_holder sv.cut_whole sv.cut_pages
removed_sound t s h dir name g (Err r) = s
removed_sound t s h dir name g (Ok there) = kind (sv.is_file t there)
  where
    kept : (d : names.Changed) → names.remove t.state.stable.names dir name ≡ Ok d → IsSound d.names
    kept d q = stay_sound.remove dir name t.state.stable.names d s q

    by : (r : Result names.Changed EntryRefusal) → ((d : names.Changed) → r ≡ Ok d → IsSound d.names) → SoundOf (sv.remove_by t r)
    by (Ok d) f = f d refl
    by (Err r) f = s

    held : (b : Bool) → SoundOf (if b then sv.remove_by t (names.remove t.state.stable.names dir name) else sv.not_holder t there g)
    held true = by (names.remove t.state.stable.names dir name) kept
    held false = s

    none : (b : Bool) → SoundOf (if b then sv.name_changed t (names.remove t.state.stable.names dir name) else sv.name_refused t refusals.IsDir)
    none true = changed_sound t s (names.remove t.state.stable.names dir name) kept
    none false = s

    kind : (b : Bool) → SoundOf (if b then sv.remove_file t h dir name g there else sv.remove_dir t dir name g)
    kind true = held (sv.holds t h there g modes.X)
    kind false = none (g.0 == 0)

pub name_sound : (t : ServerTurn) → IsSound t.state.stable.names → (h : Header) (op : NameOp) → SoundOf (sv.name t h op)
unfolding sv.name sv.remove
name_sound t s h (ops.Lookup dir n) = found_sound t s (names.lookup t.state.stable.names dir n)
name_sound t s h (ops.Create dir n) =
    changed_sound t s (names.create t.state.stable.names dir n) (λ d q. stay_sound.create dir n t.state.stable.names d s q)
name_sound t s h (ops.Mkdir dir n) = changed_sound t s (names.mkdir t.state.stable.names dir n) (λ d q. stay_sound.mkdir dir n t.state.stable.names d s q)
name_sound t s h (ops.Remove dir n g) = removed_sound t s h dir n g (names.lookup t.state.stable.names dir n)
name_sound t s h (ops.Rename dir n dir2 n2) =
    changed_sound t s (names.rename t.state.stable.names dir n dir2 n2) (λ d q. stay_sound.rename dir n dir2 n2 t.state.stable.names d s q)
name_sound t s h (ops.List dir after) = listed_sound t s (names.list t.state.stable.names dir after)

-- What a message asks for: a name, a cut, or something else that is never done.
pub record IsOther (b : Body) : Type 0 where
  pub name : (op : NameOp) → b ≡ bodies.Name op → ⊥
  pub done : (o : Option Body) → is_done_as b o ≡ false

pub record CutOf (b : Body) : Type 0 where
  pub ino : ℕ
  pub g : GrantNo
  pub from : PageNo
  pub is : b ≡ bodies.Cut ino g from

pub body_kind : (b : Body) → ((op : NameOp) × (b ≡ bodies.Name op)) ⊎ (CutOf b ⊎ IsOther b)
body_kind (bodies.Name op) = inl (op, refl)
body_kind (bodies.Cut ino g from) = inr (inl (record { ino = ino; g = g; from = from; is = refl }))
body_kind b = inr (inr (record { name = λ op q. cc; done = λ o. refl }))
