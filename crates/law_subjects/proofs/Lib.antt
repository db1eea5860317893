pub mod Places
pub mod Numbers
pub mod Tokens
pub mod Pieces
pub mod PieceKinds
pub mod Derivations
pub mod Arrays
pub mod LinePieces
pub mod VariableNames
pub mod LineTokens
pub mod LineItems
pub mod WholeItems
pub mod ItemTexts
pub mod ItemLimits
pub mod Names
pub mod Limits
pub mod Steps
pub mod Variables
pub mod Constraints
pub mod Whole
pub mod Lists
pub mod Pairs
pub mod Tables
pub mod Generators
pub mod Texts
pub mod Lengths
mod Solutions
pub mod GeneratedSolutions
mod Upgrading
mod Starving
mod Losing
mod Recording
mod Formulas
mod Refusals
mod Clauses
mod Building
pub mod ValueBounds
pub mod Accepting
mod Finding
pub mod Learning
pub mod Checks
pub mod MeantNames
pub mod Values
pub mod Sorts
pub mod Arguments
pub mod MeantConstraints
pub mod Growth
pub mod Domains
pub mod Fits
pub mod Declared
pub mod Items
pub mod MeantSteps
pub mod Goals
pub mod MeantWhole
pub mod Optima
pub mod RandomBinary
pub mod NamedPieces
pub mod NamedItems
pub mod NamedWhole
pub mod NamedProblems
pub mod PairNames
pub mod Folded
pub mod NamedTexts
pub mod MeetingLines
pub mod Hearing
pub mod SensorLines
pub mod NamedSolutions
pub mod MeetingSolutions
mod SensorSolutions
