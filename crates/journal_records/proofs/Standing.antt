-- Fields that stand one after another, and reading functions that find them there.
use Rattle.std.proofs.Common.{◌≡◌, ℕ, ◌+◌, List, ◌++◌, length, Result, Ok, refl, sym, ap, ◌∙◌, append_assoc, length-append, arith}
use Rattle.base.specs.Reading.{◌>>=◌}
use Rattle.base.specs.Grammar.{IsBytes}
use Rattle.base.proofs.Binds.{bind_ok}
use Rattle.base.proofs.Fronts.{IsBytes-after}
use Rattle.wire_bytes.specs.Position.{Position, left, further}
use Rattle.wire_bytes.proofs.FieldLaws.{left_after}
use Rattle.journal_records.specs.declared.cause.RecordCause.{RecordCause}
use Rattle.journal_records.specs.FieldReading.{At}
use Rattle.journal_records.specs.RecordText.{Field, ◌▸◌}

-- the field stands at the first position, and ends at the second
abbrev pub Stands : Field → Position → Position → Type 0
Stands F p q = (bytes : List ℕ) × F bytes × (left p ≡ bytes ++ left q) × (further (length bytes) p ≡ q)

-- wherever the field stands, reading gives the value, whatever follows
abbrev pub Reads : {A : Type 0} → (Position → At A) → Field → A → Type 0
Reads read F x = (p : Position) (bytes after : List ℕ) → F bytes → left p ≡ bytes ++ after → read p ≡ Ok (x, further (length bytes) p)

-- What is read stands there, and what stands there is read.
pub record Ties {A : Type 0} (read : Position → At A) (F : A → Field) : Type 0 where
  pub found : (p : Position) (r : A × Position) → IsBytes (left p) → read p ≡ Ok r → Stands (F r.0) p r.1
  pub again : (x : A) → Reads read (F x) x

further_both : (m n : ℕ) (p : Position) → further n (further m p) ≡ further (m + n) p
further_both m n p =
    let places : p.place + m + n ≡ p.place + (m + n) = omega arith in
    ap (λ (place : ℕ). record { bytes = p.bytes; place = place }) places

pub further_joined : (one two : List ℕ) (p : Position) → further (length two) (further (length one) p) ≡ further (length (one ++ two)) p
further_joined one two p = further_both (length one) (length two) p ∙ ap (λ (n : ℕ). further n p) (sym (length-append one two))

pub join : (F G : Field) (p q r : Position) → Stands F p q → Stands G q r → Stands (F ▸ G) p r
join F G p q r f g = (
  f.0 ++ g.0,
  (f.0, g.0, f.1, g.1, refl),
  f.2 ∙ ap (λ (t : List ℕ). f.0 ++ t) g.2 ∙ sym (append_assoc f.0 g.0 (left r)),
  sym (further_joined f.0 g.0 p) ∙ ap (λ (x : Position). further (length g.0) x) f.3 ∙ g.3,
)

pub bytes_behind : (F : Field) (p q : Position) → Stands F p q → IsBytes (left p) → IsBytes (left q)
bytes_behind F p q f are = IsBytes-after f.0 (left q) (left p) f.2 are

-- what was read behind a field
pub step : {A B : Type 0} (read : Position → At A) (F : A → Field) (next : A × Position → Result B RecordCause) (p : Position) (y : B) → Ties read F → IsBytes (left p) → (read p >>= next) ≡ Ok y
    → (r : A × Position) × Stands (F r.0) p r.1 × IsBytes (left r.1) × (next r ≡ Ok y)
step read F next p y ties are e =
    let r = bind_ok (read p) next y e in
    let stands = ties.found p r.0 are r.1 in
    (r.0, stands, bytes_behind (F r.0.0) p r.0.1 stands are, r.2)

-- a field and what follows it are read
pub goes : {A B : Type 0} (read : Position → At A) (F : Field) (x : A) (next : A × Position → At B) (G : Field) (y : B) → Reads read F x → Reads (λ q. next (x, q)) G y → Reads (λ p. read p >>= next) (F ▸ G) y
goes read F x next G y one two p bytes after is e =
    let whole : left p ≡ is.0 ++ (is.1 ++ after) = e ∙ ap (λ (t : List ℕ). t ++ after) is.4 ∙ append_assoc is.0 is.1 after in
    let first = one p is.0 (is.1 ++ after) is.2 whole in
    let q = further (length is.0) p in
    let second = two q is.1 after is.3 (left_after is.0 (is.1 ++ after) p whole) in
    let place : further (length is.1) q ≡ further (length bytes) p = further_joined is.0 is.1 p ∙ ap (λ (t : List ℕ). further (length t) p) (sym is.4) in
    rw first (second ∙ ap (λ (z : Position). Ok (y, z)) place)

-- the last field, of which a value is made
pub ends : {A B : Type 0} (read : Position → At A) (F : Field) (x : A) (make : A → B) → Reads read F x → Reads (λ p. read p >>= λ r. Ok (make r.0, r.1)) F (make x)
ends read F x make one p bytes after is e = rw (one p bytes after is e) refl
