pub mod Vectors
pub mod HearingSteps
mod HearingCases
pub mod HearingLoop
mod NextHops
pub mod NotesKept
pub mod Replaying
pub mod Cutting
pub mod AgeReplaying
pub mod MovesReplay
pub mod WholeResponse
pub mod ReasonsOfEach
pub mod ConfigReasons
mod CutPieces
pub mod Sending
mod AllTold
pub mod ConfigLaws
pub mod Owning
mod AgedTables
mod AllRoutes
mod DueRoutes
pub mod Announced
mod Replying
pub mod ListLaws
mod ToldRuns
mod EmptyRequests
mod Silence
mod Waking
mod RouterSteps
pub mod OwnedStay
mod ConfigChanges
pub mod Reasons
pub mod ReasonVectors
pub mod OfferedSteps
mod Renewing
pub mod NoFilters
pub mod Counting
