-- A server that cuts or removes a file for a request: it has the file, and its client an exclusive row of it. So trees make something of the ask.
use Rattle.st_lemmas.proofs.Words
use Words.{◌≡◌, ◌⊎◌, ℕ, zero, suc, ◌==◌, Bool, true, false, List, Option, Some, None, Ok, Err, refl, sym, ap, ◌∙◌, subst, inl, inr, if◌then◌else◌, eqb-true, Result}
use Words.{GrantNo, Header, NameAsk, NameRow, PageNo, Stamp, LockRow}
use Words.answers
use Words.bodies
use Words.modes
use Words.ClientPasses.{name_op}
use Words.Locks as locks
use Words.Names as names
use Words.Names.{Names}
use Words.Server as sv
use Words.Server.{ServerNode, ServerTurn, Stable, sender}
use Words.Tables.{and_true}
use Words.Truth.{exclusive_covers}
use Rattle.st_base.specs.declared.names.NameAsk.TheVariants as asked
use Rattle.st_base.specs.Mode.{covers}
use Rattle.st_rules.specs.declared.names.EntryRefusal.{EntryRefusal}
use Rattle.st_trace.proofs.Server.Input.{thefts_begun}
use Rattle.st_laws_volume.specs.TreeNames.{IsSound, as_changed, as_found, as_listed, tree_of}
use Rattle.st_laws_volume.specs.Witness.{is_done_as, turn_of}
use Rattle.st_laws_volume.proofs.TreeAnswers.{does_the_same}
use Rattle.st_laws_volume.proofs.TreeTurns.{thefts_stable}
use Rattle.st_volume.specs.Trees.{Made, does}

-- what an ask makes of names: something; and if that removes a file, this holds of it
pub record Makes (n : Names) (ask : NameAsk) (P : ℕ → Type 0) : Type 0 where
  pub made : Made
  pub is : does (tree_of n) ask ≡ Some made
  pub cut : (made.1.1 ≡ None) ⊎ ((ino : ℕ) × (made.1.1 ≡ Some ino) × P ino)

module _ (n : Names) (ask : NameAsk) (P : ℕ → Type 0) where
  refused : (r : EntryRefusal) → does (tree_of n) ask ≡ Some (tree_of n, (answers.Refused (names.code_of r), None)) → Makes n ask P
  refused r e = record { made = (tree_of n, (answers.Refused (names.code_of r), None)); is = e; cut = inl refl }

  found : (r : Result ℕ EntryRefusal) → does (tree_of n) ask ≡ as_found n r → Makes n ask P
  found (Ok ino) e = record { made = (tree_of n, (answers.Named ino, None)); is = e; cut = inl refl }
  found (Err r) e = refused r e

  changed : (r : Result names.Changed EntryRefusal) → does (tree_of n) ask ≡ as_changed n None r → Makes n ask P
  changed (Ok d) e = record { made = (tree_of d.names, (answers.Named d.ino, None)); is = e; cut = inl refl }
  changed (Err r) e = refused r e

  removed : (ino : ℕ) → P ino → (r : Result names.Changed EntryRefusal) → does (tree_of n) ask ≡ as_changed n (Some ino) r → Makes n ask P
  removed ino p (Ok d) e = record { made = (tree_of d.names, (answers.Named d.ino, Some ino)); is = e; cut = inr (ino, refl, p) }
  removed ino p (Err r) e = refused r e

  listed : (r : Result (List NameRow) EntryRefusal) → does (tree_of n) ask ≡ as_listed n r → Makes n ask P
  listed (Ok rows) e = record { made = (tree_of n, (answers.Listed rows, None)); is = e; cut = inl refl }
  listed (Err r) e = refused r e

module _ (node : ServerNode) (now : Stamp) (h : Header) where
  abbrev t : ServerTurn
  t = turn_of node now

  -- its file, and the exclusive row of the client, before the step
  pub record Finds (ino : ℕ) (g : GrantNo) : Type 0 where
    pub file : names.is_file node.state.stable.names ino ≡ true
    pub row : LockRow
    pub found : locks.row_of node.state.locks (sender h) ino ≡ Some row
    pub exclusive : row.mode ≡ modes.X
    pub under : row.g.0 ≡ g.0

  finds : (ino : ℕ) (g : GrantNo) → sv.is_file t ino ≡ true → sv.holds t h ino g modes.X ≡ true → Finds ino g
  finds ino g f q = go (locks.row_of t.state.locks (sender h) ino) refl q
    where
      go : (o : Option LockRow) → locks.row_of t.state.locks (sender h) ino ≡ o → sv.is_held g modes.X o ≡ true → Finds ino g
      go None e k = cc k
      go (Some r) e k =
          let y = and_true (r.g.0 == g.0) (covers r.mode modes.X) k in
          record {
            file = ap (λ (y : Stable). names.is_file y.names ino) (sym (thefts_stable node.state now)) ∙ f;
            row = r;
            found = (thefts_begun node.state now).rows (sender h) ino r e;
            exclusive = exclusive_covers r.mode y.1;
            under = eqb-true r.g.0 g.0 y.0;
          }

  -- a cut that is acknowledged
  pub cut_finds : (ino : ℕ) (g : GrantNo) (from : PageNo) →
      is_done_as (bodies.Cut ino g from) (sv.rule t now h (bodies.Cut ino g from)).reply ≡ true → Finds ino g
  unfolding sv.rule sv.cut sv.cut_held sv.cut_from sv.no_file sv.not_holder
  cut_finds ino g from q = go (sv.is_file t ino) refl (sv.holds t h ino g modes.X) refl q
    where
      go : (b : Bool) → sv.is_file t ino ≡ b → (d : Bool) → sv.holds t h ino g modes.X ≡ d →
          is_done_as (bodies.Cut ino g from) (if b then (if d then sv.cut_from t ino from else sv.not_holder t ino g) else sv.no_file t ino).reply ≡ true →
          Finds ino g
      go true f true k q = finds ino g f k
      go true f false k q = cc q
      go false f d k q = cc q

  -- a file that is removed under this grant is the one that is meant
  abbrev pub IsMeant : NameAsk → GrantNo → Type 0
  IsMeant (asked.Remove dir name ino) g = (there : ℕ) → Finds there g → there ≡ ino
  IsMeant ask g = Unit {0}

  -- a request for a name that was done
  module _ (s : IsSound t.state.stable.names) where
    abbrev n : Names
    n = t.state.stable.names

    removes : (dir : ℕ) (name : List ℕ) (ino : ℕ) (g : GrantNo) → ((there : ℕ) → Finds there g → there ≡ ino) → (r : Result ℕ EntryRefusal) →
        names.lookup n dir name ≡ r → is_done_as (bodies.Name (name_op (asked.Remove dir name ino) g)) (sv.remove_found t h dir name g r).reply ≡ true →
        Makes n (asked.Remove dir name ino) (λ i. Finds i g)
    unfolding sv.remove_found sv.remove_ino sv.remove_file sv.not_holder
    removes dir name ino g one (Err r) q d = refused n (asked.Remove dir name ino) (λ i. Finds i g) r ((does_the_same n s).remove_nothing dir name ino r q)
    removes dir name ino g one (Ok there) q d = go (sv.is_file t there) refl (sv.holds t h there g modes.X) refl d
      where
        its : Finds there g → sv.is_file t there ≡ true → Makes n (asked.Remove dir name ino) (λ i. Finds i g)
        its z f =
            let e = one there z in
            removed n (asked.Remove dir name ino) (λ i. Finds i g) ino (subst (λ i. Finds i g) e z) (names.remove n dir name)
            ((does_the_same n s).remove_file dir name ino (q ∙ ap (λ i. Ok i) e) (ap (names.is_file n) (sym e) ∙ f))

        empty : (i : ℕ) → sv.is_file t there ≡ false → Makes n (asked.Remove dir name i) (λ i. Finds i g)
        empty zero f =
            changed n (asked.Remove dir name 0) (λ i. Finds i g) (names.remove n dir name) ((does_the_same n s).remove_directory dir name there q f)
        empty (suc i) f =
            record {
              made = (tree_of n, (answers.Refused 4, None));
              is = (does_the_same n s).remove_refused dir name i there q f;
              cut = inl refl;
            }

        go : (b : Bool) → sv.is_file t there ≡ b → (k : Bool) → sv.holds t h there g modes.X ≡ k →
            is_done_as (bodies.Name (name_op (asked.Remove dir name ino) g))
            (if b then (if k then sv.remove_by t (names.remove n dir name) else sv.not_holder t there g) else sv.remove_dir t dir name g).reply ≡ true →
            Makes n (asked.Remove dir name ino) (λ i. Finds i g)
        go true f true k d = its (finds there g f k) f
        go true f false k d = cc d
        go false f k e d = empty ino f

    does_so : (ask : NameAsk) (g : GrantNo) → IsMeant ask g → is_done_as (bodies.Name (name_op ask g)) (sv.name t h (name_op ask g)).reply ≡ true →
        Makes n ask (λ i. Finds i g)
    unfolding sv.name sv.remove
    does_so (asked.Lookup dir name) g one d =
        found n (asked.Lookup dir name) (λ i. Finds i g) (names.lookup n dir name) ((does_the_same n s).lookup dir name)
    does_so (asked.Create dir name) g one d =
        changed n (asked.Create dir name) (λ i. Finds i g) (names.create n dir name) ((does_the_same n s).create dir name)
    does_so (asked.Mkdir dir name) g one d =
        changed n (asked.Mkdir dir name) (λ i. Finds i g) (names.mkdir n dir name) ((does_the_same n s).mkdir dir name)
    does_so (asked.Remove dir name ino) g one d = removes dir name ino g one (names.lookup n dir name) refl d
    does_so (asked.Rename dir name dir2 name2) g one d =
        changed n (asked.Rename dir name dir2 name2) (λ i. Finds i g) (names.rename n dir name dir2 name2)
        ((does_the_same n s).rename dir name dir2 name2)
    does_so (asked.List dir after) g one d = listed n (asked.List dir after) (λ i. Finds i g) (names.list n dir after) ((does_the_same n s).list dir after)

  -- the same, of the names before the step
  pub name_makes : IsSound node.state.stable.names → (ask : NameAsk) (g : GrantNo) → IsMeant ask g →
      is_done_as (bodies.Name (name_op ask g)) (sv.rule t now h (bodies.Name (name_op ask g))).reply ≡ true →
      Makes node.state.stable.names ask (λ i. Finds i g)
  unfolding sv.rule
  name_makes s ask g one d = subst (λ (x : Names). Makes x ask (λ i. Finds i g)) same (does_so (subst IsSound (sym same) s) ask g one d)
    where
      same : t.state.stable.names ≡ node.state.stable.names
      same = ap (λ (y : Stable). y.names) (thefts_stable node.state now)
