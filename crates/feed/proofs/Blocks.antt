-- What a loop over the blocks of a reader keeps: what was taken, with what stands at the front of the bytes, is what was read.
use Rattle.std.specs.Prelude.{ℕ, ◌+◌, ◌-◌, ◌%◌, ◌≤◌, ◌<◌, true, false, List, [], ◌∷◌, ◌++◌, ◌≡◌, refl, length, take, drop, slice_range, Bool, Option, None, Some, Result, Ok, Err, OnOk}
use Rattle.std.specs.Result.{is_err}
use Rattle.base.specs.Pick.{clash}
use Rattle.std.specs.List.{FoldsTo, concat}
use Rattle.std.specs.Io.KnownBytes.{Consumes, IsAtEnd}
use Rattle.std.proofs.Common.{sym, ◌∙◌, ap, subst, arith, zero-add, length-drop}
use Rattle.std.proofs.Math.Seq.{paste, take-add}
use Rattle.std.proofs.lemmas.List.{append_assoc, append-nil, length-take-le}
use Rattle.std.proofs.lemmas.List.Edits.{take-paste, length-paste}
use Rattle.std.proofs.lemmas.List.Folds.{concat-append}
use Rattle.std.proofs.lemmas.Fn.{FoldsTo-push}
use borrow.Author.Tests.{eqb-true}
use Rattle.base.specs.Among.{All, All-append}
use Rattle.feed.specs.declared.Input as code
use Rattle.feed.specs.Feed.{told, ReadBehind, ReadNext, Fronted, last_block, Given}
use Rattle.feed.specs.Laws.{fronted_rest}

pub record Stands {T : Type 0} (takes : T → List ℕ → T → Type 0) (old now : Option (List ℕ)) (before t : T) (room : ℕ) (bytes : List ℕ) (have : ℕ) : Type 0 where
  pub blocks : List (List ℕ)
  pub whole : All (λ block. length block % 256 ≡ 0) blocks
  pub taken : FoldsTo takes before blocks t
  pub read : Consumes old now (concat blocks ++ take have bytes)
  pub within : have ≤ length bytes
  pub kept : length bytes ≡ room

then : (old now new : Option (List ℕ)) (xs ys : List ℕ) → Consumes old now xs → Consumes now new ys → Consumes old new (xs ++ ys)
then None now new xs ys h k = tt
then (Some a) None new xs ys h k = absurd h
then (Some a) (Some b) None xs ys h k = absurd k
then (Some a) (Some b) (Some c) xs ys h k = h ∙ ap (λ (l : List ℕ). xs ++ l) k ∙ sym (append_assoc xs ys c)

none : (old : Option (List ℕ)) → Consumes old old []
none None = tt
none (Some a) = refl

last_some : (l : List ℕ) → 0 < length l → last_block l ≡ l ∷ []
last_some [] h = absurd (omega arith)
last_some (x ∷ xs) h = refl

pub was_ok : {E : Type 0} (r : Result (Unit {0}) E) (b : Bool) (P : Type 0) → OnOk r P → b ≡ is_err r → b ≡ false → P
was_ok (Ok x) b P h e f = h
was_ok (Err x) b P h e f = absurd (clash e f)

module _ {T : Type 0} (takes : T → List ℕ → T → Type 0) where
  pub stands_first : (old : Option (List ℕ)) (t : T) (bytes : List ℕ) → Stands takes old old t t (length bytes) bytes 0
  stands_first old t bytes = record { blocks = []; whole = tt; taken = refl; read = none old; within = omega arith; kept = refl }

  module _ (old now new : Option (List ℕ)) (before t : T) (room : ℕ) (bytes mid : List ℕ) (have : ℕ) (i : code.Input) (s : Stands takes old now before t room bytes have) (b : ReadBehind bytes have (told (Ok i)) mid) (n : ReadNext now new have (told (Ok i)) mid) where
    pub stands_read : Stands takes old new before t room mid i.have
    stands_read =
        let few : have ≤ i.have = b.least s.within in
        let sum : have + (i.have - have) ≡ i.have = omega arith in
        let front : take have bytes ++ slice_range mid have i.have ≡ take i.have mid =
        ap (λ (l : List ℕ). l ++ slice_range mid have i.have) (sym b.front) ∙ sym (take-add have (i.have - have) mid) ∙ ap (λ (k : ℕ). take k mid) sum in
        record {
          blocks = s.blocks;
          whole = s.whole;
          taken = s.taken;
          read =
              subst (Consumes old new) (append_assoc (concat s.blocks) (take have bytes) (slice_range mid have i.have) ∙ ap (λ (l : List ℕ). concat s.blocks ++ l) front)
              (then old now new (concat s.blocks ++ take have bytes) (slice_range mid have i.have) s.read (n.came refl));
          within = b.most;
          kept = b.long ∙ s.kept;
        }

    pub ends_short : i.ended ≡ true → i.have ≡ have
    ends_short e = eqb-true _ _ (sym (b.ends s.within) ∙ e)

    pub ends_done : i.ended ≡ true → (256 ≤ room → have < 256) → 256 ≤ room → IsAtEnd new
    ends_done e few h = let k = few h in n.done refl e (omega (arith, b.long, s.kept))

  module _ (old new : Option (List ℕ)) (before t u : T) (room : ℕ) (mid : List ℕ) (n : ℕ) (s : Stands takes old new before t room mid n) where
    pub given_none : n ≡ 0 → (256 ≤ room → IsAtEnd new) → Given takes old new before t room
    given_none z done =
        record {
          blocks = s.blocks;
          rest = [];
          whole = s.whole;
          taken = subst (λ (l : List (List ℕ)). FoldsTo takes before l t) (sym (append-nil s.blocks)) s.taken;
          all = subst (λ (k : ℕ). Consumes old new (concat s.blocks ++ take k mid)) z s.read;
          short = λ h. omega arith;
          done = done;
        }

    pub given_last : 0 < n → takes t (take n mid) u → (256 ≤ room → n < 256) → (256 ≤ room → IsAtEnd new) → Given takes old new before u room
    given_last h took few done =
        let l : length (take n mid) ≡ n = length-take-le n mid s.within in
        record {
          blocks = s.blocks;
          rest = take n mid;
          whole = s.whole;
          taken =
              subst (λ (l : List (List ℕ)). FoldsTo takes before (s.blocks ++ l) u) (sym (last_some (take n mid) (omega arith)))
              (FoldsTo-push takes before s.blocks t (take n mid) u s.taken took);
          all = s.read;
          short = λ r. let k = few r in omega arith;
          done = done;
        }

    pub stands_next : (after : List ℕ) (k : ℕ) → takes t (take (n - n % 256) mid) u → Fronted mid n k after → Stands takes old new before u room after k
    stands_next after k took f =
        let m : ℕ = n % 256 in
        let q : ℕ = n - n % 256 in
        let g = fronted_rest mid after n k s.within f in
        let sum : q + m ≡ n = omega arith in
        let long : length (take q mid) ≡ q = length-take-le q mid (omega (arith, s.within)) in
        let left : m ≤ length (drop q mid) = omega (arith, length-drop q mid, s.within) in
        let same : length after ≡ length mid = ap length g.1 ∙ length-paste mid 0 (drop q mid) m (omega (arith, s.within)) left in
        let rest : take k after ≡ take m (drop q mid) = rw (g.0, g.1) (ap (λ (j : ℕ). take j (paste mid 0 (drop q mid) m)) (sym (zero-add m)) ∙ take-paste mid 0 (drop q mid) m (omega arith) left) in
        let whole : take n mid ≡ take q mid ++ take k after =
        ap (λ (j : ℕ). take j mid) (sym sum) ∙ take-add q m mid ∙ ap (λ (l : List ℕ). take q mid ++ l) (sym rest) in
        let e : concat s.blocks ++ take n mid ≡ concat (s.blocks ++ (take q mid ∷ [])) ++ take k after =
        ap (λ (l : List ℕ). concat s.blocks ++ l) whole ∙ sym (append_assoc (concat s.blocks) (take q mid) (take k after))
        ∙ ap (λ (l : List ℕ). (concat s.blocks ++ l) ++ take k after) (sym (append-nil (take q mid)))
        ∙ ap (λ (l : List ℕ). l ++ take k after) (sym (concat-append s.blocks (take q mid ∷ []))) in
        record {
          blocks = s.blocks ++ (take q mid ∷ []);
          whole = All-append _ s.blocks (take q mid ∷ []) s.whole (ap (λ (x : ℕ). x % 256) long ∙ omega arith, tt);
          taken = FoldsTo-push takes before s.blocks t (take q mid) u s.taken took;
          read = subst (Consumes old new) e s.read;
          within = omega (arith, s.within, g.0, same);
          kept = same ∙ s.kept;
        }

    pub rest_few : (after : List ℕ) (k : ℕ) → Fronted mid n k after → k < 256
    rest_few after k f = omega (arith, (fronted_rest mid after n k s.within f).0)
