-- Membership in a list, lists with the same members, and a fact about every element of one.
use mathlib.Core.List.Memᴰ
use mathlib.Core.List.{List, [], ◌∷◌, ◌++◌, map, Memᴰ}

infixl 20 ◌∈◌
abbrev pub ◌∈◌ : {A : Type 0} → A → List A → Type 0
a ∈ l = Memᴰ a l

-- the same members, in whatever order and however often each
pub record SameMembers {A : Type 0} (k l : List A) : Type 0 where
  pub there : (a : A) → a ∈ k → a ∈ l
  pub back : (a : A) → a ∈ l → a ∈ k

pub map_members : {A B : Type 0} (f : A → B) (k l : List A) → SameMembers k l → SameMembers (map f k) (map f l)
map_members f k l s =
    record {
      there = λ b m. let o = Memᴰ.of_map f k m in rw (← o.2) (Memᴰ.map f (s.there o.0 o.1));
      back = λ b m. let o = Memᴰ.of_map f l m in rw (← o.2) (Memᴰ.map f (s.back o.0 o.1));
    }

-- of every element: a product, so that it is built by a tuple and used by `All-in`
abbrev pub All : {A : Type 0} → (A → Type 0) → List A → Type 0
All P [] = Unit {0}
All P (x ∷ l) = P x × All P l

pub All-in : {A : Type 0} (P : A → Type 0) {a : A} {l : List A} → All P l → a ∈ l → P a
All-in {A = A} P {a = a} {l = []} h x5 = elim x5 [ ]
All-in P {l = x ∷ l} h (Memᴰ.head e) = rw e h.0
All-in P {l = x ∷ l} h (Memᴰ.tail m) = All-in P h.1 m

pub All-append : {A : Type 0} (P : A → Type 0) (k l : List A) → All P k → All P l → All P (k ++ l)
All-append P [] l h g = g
All-append P (x ∷ k) l h g = (h.0, All-append P k l h.1 g)

pub All-map : {A : Type 0} (P Q : A → Type 0) → ((a : A) → P a → Q a) → (l : List A) → All P l → All Q l
All-map P Q f [] h = tt
All-map P Q f (x ∷ l) h = (f x h.0, All-map P Q f l h.1)
